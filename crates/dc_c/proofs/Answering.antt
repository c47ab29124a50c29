-- What a function for C answers, from what it met.
use Rattle.std.proofs.Common.{◌≡◌, ◌∙◌, ℕ, ℤ, [], ◌∷◌, Option, Some, None, IfSome, IfNone, MatchOption, sym, subst}
use Rattle.dc_cache.specs.declared.cache.Pass.{Pass}
use Rattle.dc_hold.specs.declared.hold.Hold.{Hold}
use Rattle.dc_hold.specs.declared.status.Status.TheVariants as statuses
use Rattle.dc_hold.specs.declared.told.Found.{Found}
use Rattle.dc_hold.specs.declared.told.Told.{Told}
use Rattle.dc_c.specs.Answering.{Answers, Calls, Refuses, Shows}
use Rattle.dc_c.specs.Holding.{OnHold}
use Rattle.dc_c.specs.declared.handle.Handle.{Handle}

-- the hold of the handle was called, and put back
pub called : {A O : Type 0} (Allows : Pass → Pass → A → Type 0) (Tells : A → ℤ → O → Type 0) (old new : Handle) (number : ℤ) (before written : O) (hold at back : Hold) (answer : A)
    → old.held.holds ≡ hold ∷ [] → at ≡ hold → new.held.holds ≡ back ∷ [] → Allows at.pass back.pass answer → Tells answer number written → Answers A O Allows Tells old new number before written
called {A = A} {O = O} Allows Tells old new number before written hold at back answer was same is allowed told =
    subst (λ holds. OnHold holds (Refuses O statuses.BadPass old new number before written) (λ hold. Calls A O Allows Tells hold new number written)) (sym was)
    (record { called = back; back = is; answer = answer; allowed = subst (λ h. Allows h.pass back.pass answer) same allowed; told = told })

-- an answer, or another pass had the lock
pub tried : {A : Type 0} (P : A → Type 0) (Q : Type 0) (o : Option A) → IfSome o P → IfNone o Q → MatchOption o Q P
tried P Q None some none = none
tried P Q (Some x) some none = some

-- what holds whether or not there is an answer, with what holds of the answer
pub besides : {A : Type 0} (P : A → Type 0) (N : Type 0) (o : Option A) → N → IfSome o P → IfSome o (λ x. N × P x)
besides P N None always some = some
besides P N (Some x) always some = (always, some)

-- the number that is answered is the one that was told
pub as_told : (T : ℤ → Type 0) {n m : ℤ} → m ≡ n → T n → T m
as_told T e told = subst T (sym e) told

-- a number that C gave has this meaning
pub meant : {A : Type 0} (o : Option A) (x : A) (B : Type 0) (F : A → Type 0) → Some x ≡ o → F x → MatchOption o B F
meant o x B F is holds = subst (λ o. MatchOption o B F) is holds

pub shown : (told as_told : Told) (n m : ℤ) (found : Found) → told ≡ as_told → Shows told n found → m ≡ n → Shows as_told m found
shown told as_told n m found same is e = subst (λ t. Shows t m found) same (record { status = e ∙ is.status; written = is.written })

-- the same with another count
pub counted : (told as_told : Told) (n m : ℤ) (found : Found) (count : ℕ) {as_count : ℕ} → told ≡ as_told → count ≡ as_count → Shows (record told { found = record told.found { count = count } }) n found → m ≡ n
    → Shows (record as_told { found = record as_told.found { count = as_count } }) m found
counted told as_told n m found count same counts is e =
    shown _ _ n m found (λ i. record (same i) { found = record (same i).found { count = counts i } }) is e
