use Rattle.std.proofs.Common.{◌∙◌, ℕ, nat_eq, is_some, tests, rules}
use Rattle.std.specs.Map.{lookup}
use Rattle.std.proofs.lemmas.Iterator.Search.{find_from_yields_List}
use Rattle.std.proofs.lemmas.Iterator.Adapters.{YieldsList-from_rev_slice}
use Rattle.dc_shrink.proofs.Promoted.{find-reverse}
use Rattle.dc_shrink.proofs.bucket.Bucket.last_listed.Goals as goal

pub returns : goal.returns
returns c = let listed = λ (row : ℕ). is_some (lookup (nat_eq row) c.args.listed.now.entries) in
    c.copied.ensures
    ∙ find_from_yields_List listed _ _ c.find.result c.find.ensures.ran (YieldsList-from_rev_slice c.args.self.now cc) (λ x b q k. search (rules, tests))
    ∙ find-reverse listed c.args.self.now
