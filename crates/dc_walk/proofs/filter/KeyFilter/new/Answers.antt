use Rattle.std.proofs.Common.{◌≡◌, ◌%◌, false, get_or, replicate, arith}
use Rattle.std.proofs.lemmas.List.{get_or-replicate}
use Rattle.dc_walk.specs.declared.filter.TheConstants.{FILTER_PLACES}
use Rattle.dc_walk.proofs.filter.KeyFilter.new.Goals as goal

pub returns : goal.returns
returns c = λ hash held.
    let clear : get_or (replicate FILTER_PLACES false) (hash % FILTER_PLACES) false ≡ false = get_or-replicate FILTER_PLACES (hash % FILTER_PLACES) false false (omega arith) in
    absurd (cc)
