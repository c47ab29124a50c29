-- What a function for C that tells where a directory is leaves as it was.
use Rattle.std.proofs.Common.{◌≡◌, ◌∙◌, ◌++◌, ℕ, ℤ, [], take, drop, List, Option, Some, None, IfNone, sym, subst}
use Rattle.std.proofs.lemmas.List.{take-append-drop}
use Rattle.dc_cache.specs.declared.cache.Pass.{Pass}
use Rattle.dc_hold.specs.Numbers.{status_number}
use Rattle.dc_hold.specs.declared.status.Status.TheVariants as statuses
use Rattle.dc_c.specs.Answering.{Answers, Calls, Refuses}
use Rattle.dc_c.specs.Holding.{OnHold}
use Rattle.dc_c.specs.declared.handle.Handle.{Handle}

-- what follows from what holds if there is no answer
pub without : {A M N : Type 0} (o : Option A) → (M → N) → IfNone o M → IfNone o N
without None f none = f none
without (Some _) f none = none

-- bytes of which the first ones were lent, and are as they were
pub unwritten : (n : ℕ) (bytes front : List ℕ) → front ≡ take n bytes → front ++ drop n bytes ≡ bytes
unwritten n bytes front is = (λ i. is i ++ drop n bytes) ∙ take-append-drop n bytes

-- the handle is blank
pub refused : {A O : Type 0} (Allows : Pass → Pass → A → Type 0) (Tells : A → ℤ → O → Type 0) (old new : Handle) (number : ℤ) (before written : O)
    → old.held.holds ≡ [] → new.held.holds ≡ [] → number ≡ status_number statuses.BadPass → written ≡ before → Answers A O Allows Tells old new number before written
refused {A = A} {O = O} Allows Tells old new number before written was is why unwritten =
    subst (λ holds. OnHold holds (Refuses O statuses.BadPass old new number before written) (λ hold. Calls A O Allows Tells hold new number written)) (sym was)
    (record { same = is ∙ sym was; why = why; unwritten = unwritten })
