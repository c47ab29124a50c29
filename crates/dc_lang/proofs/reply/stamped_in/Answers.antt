use Rattle.std.proofs.Common.{sym, subst, List, ℕ, Option}
use Rattle.std.specs.Borrow.{Bor}
use Rattle.dc_plain.specs.Requests.{Answer}
use Rattle.dc_lang.specs.Reading.{Reads}
use Rattle.dc_lang.specs.Responses.{stamped_of}
use Rattle.dc_lang.proofs.Responses.{stamped_in-none, stamped_in-cut}
use Rattle.dc_lang.proofs.reply.stamped_in.Goals as goal

pub returns-in-None : goal.returns-in-None
returns-in-None c = stamped_in-none (λ (word : Bor (List ℕ)). word.now) c.args.words.now c.in-None.ensures.cases

pub returns-in-Some : goal.returns-in-Some
returns-in-Some c =
    let cut = stamped_in-cut (λ (word : Bor (List ℕ)). word.now) c.args.words.now c.in-Some.words.now c.in-Some.point.now c.in-Some.ensures.cases.0 in
    subst (λ (read : Option (Answer × ℕ)). Reads stamped_of c.stamped_from.result read) (sym cut) c.stamped_from.ensures
