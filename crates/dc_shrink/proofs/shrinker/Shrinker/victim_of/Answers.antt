use Rattle.std.proofs.Common.{[], ap, sym, ◌∙◌, filter, length, is_some, nat_eq, slice_index_or, ◌<◌, ◌≤◌}
use Rattle.std.specs.Map.{lookup}
use Rattle.std.proofs.lemmas.Bool.{ltb-true, ltb-false}
use Rattle.dc_shrink.specs.Listings.{last_of, in_bucket}
use Rattle.dc_shrink.proofs.Steps.{none_beyond, seen_in_bucket}
use Rattle.dc_shrink.proofs.shrinker.Shrinker.victim_of.Goals as goal

pub returns-in_err-get-clause-victim : goal.returns-in_err-get-clause-victim
returns-in_err-get-clause-victim c = let beyond : length c.self.inside.buckets.items ≤ c.args.bucket = rw (sym c.deref.ensures.value) (ltb-false _ _ (sym c.in_err-get.ensures.lookup.0)) in
    c.from_residual.ensures ∙ sym (ap last_of (none_beyond c.self.invariant c.args.bucket beyond)) ∙ ap (λ s. last_of (filter (in_bucket c.args.bucket) s.listed)) c.self.view_is

pub returns-clause-victim : goal.returns-clause-victim
returns-clause-victim c = let below : c.args.bucket < length c.self.inside.buckets.items = rw (sym c.deref.ensures.value) (ltb-true _ _ (sym c.in_ok-get.ensures.lookup.0)) in
    let here = c.in_ok-get.ensures.lookup.3.1 [] ∙ ap (λ bs. slice_index_or bs c.args.bucket []) c.deref.ensures.value in
    c.last_listed.ensures
    ∙ ap (λ b. last_of (filter (λ row. is_some (lookup (nat_eq row) c.self.inside.listed.entries)) b)) here
    ∙ ap last_of (seen_in_bucket c.self.inside.listed.entries c.self.invariant c.args.bucket below)
    ∙ ap (λ s. last_of (filter (in_bucket c.args.bucket) s.listed)) c.self.view_is
