use Rattle.dc_lang.proofs.Lines.{one_thing, means_from_meaning_in, meaning_in_from_means}
use Rattle.dc_lang.proofs.Responses.{one_response}
use Rattle.dc_lang.proofs.laws.each_line_has_one_meaning.Goals as goal

pub returns-clause-one : goal.returns-clause-one
returns-clause-one c = one_thing

pub returns-clause-read : goal.returns-clause-read
returns-clause-read c = λ line meaning. (means_from_meaning_in line meaning, meaning_in_from_means line meaning)

pub returns-clause-reply : goal.returns-clause-reply
returns-clause-reply c = one_response
