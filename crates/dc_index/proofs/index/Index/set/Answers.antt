use Rattle.std.proofs.Common.{subst, refl}
use Rattle.std.proofs.lemmas.List.{map-set}
use Rattle.dc_plain.specs.KeysShown.{key_shown}
use Rattle.dc_index.specs.Slots.{IsIndex, bucket_in}
use Rattle.dc_index.proofs.Kept.{kept_key, bucket_below, below_of_bucket}
use Rattle.dc_index.proofs.index.Index.set.Goals as goal

pub invariant_of-self : goal.invariant_of-self
invariant_of-self c = let is = subst IsIndex c.self.view_is c.self.invariant in let key = key_shown c.args.key.now in
    let below = below_of_bucket is c.args.row (bucket_in c.args.self.now key) (bucket_below is key) c.requires.home in
    rw (map-set, c.in_ok-own.ensures, c.self.view_is) (kept_key is c.args.row below key c.requires.home c.requires.absent)

pub returns-clause-set : goal.returns-clause-set
returns-clause-set c = rw (map-set, c.in_ok-own.ensures, c.self.view_is) refl
