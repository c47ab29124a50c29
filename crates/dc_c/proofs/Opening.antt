-- What handles have, from what was put into them.
use Rattle.std.proofs.Common.{◌≡◌, ◌∙◌, ℤ, List, [], ◌∷◌, Result, Ok, Err, IfOk, IfErr, refl, sym, ap, subst}
use Rattle.dc_cache.specs.Passes.{view}
use Rattle.dc_cache.specs.declared.cache.Pass.{Pass}
use Rattle.dc_hold.specs.Allowed.{IsSplit}
use Rattle.dc_hold.specs.Numbers.{status_number}
use Rattle.dc_hold.specs.declared.hold.Hold.{Hold}
use Rattle.dc_hold.specs.declared.status.Status.{Status}
use Rattle.dc_hold.specs.declared.status.Status.TheVariants.{Done, NoMemory}
use Rattle.dc_c.specs.Holding.{OnHold, IsOpen}
use Rattle.dc_c.specs.Shapes.{MaySplit, Opens, ShowsSplit}

pub on_blank : (P : Type 0) (Q : Hold → Type 0) (holds : List Hold) → holds ≡ [] → P → OnHold holds P Q
on_blank P Q holds blank is = subst (λ holds. OnHold holds P Q) (sym blank) is

pub on_hold : (P : Type 0) (Q : Hold → Type 0) (holds : List Hold) (hold : Hold) → holds ≡ hold ∷ [] → Q hold → OnHold holds P Q
on_hold P Q holds hold has is = subst (λ holds. OnHold holds P Q) (sym has) is

pub on_open : (P : Type 0) (Q : Hold → Type 0) (holds : List Hold) → IsOpen holds → ((hold : Hold) → Q hold) → OnHold holds P Q
on_open P Q [] never is = absurd never
on_open P Q (hold ∷ _) _ is = is hold

-- a hold that was made, if one was, is in a handle that was blank, and the number says how this ended
abbrev pub IsPut : {B : Type 0} → Result B Status → (B → Hold) → ℤ → List Hold → Type 0
IsPut made value n holds = IfOk made (λ b. (holds ≡ value b ∷ []) × (n ≡ status_number Done)) × IfErr made (λ status. (holds ≡ []) × (n ≡ status_number status))

pub opens : {B : Type 0} (made : Result B Status) (value : B → Hold) (Is : Hold → Type 0) (why : Status) (n m : ℤ) (holds : List Hold) → IfOk made (λ b. Is (value b)) → IfErr made (λ status. status ≡ why)
    → IsPut made value n holds → m ≡ n → Opens Is why holds m
opens (Ok b) value Is why n m holds is none put e = on_hold _ (λ hold. Is hold × (m ≡ status_number Done)) holds (value b) put.0.0 (is, e ∙ put.0.1)
opens (Err status) value Is why n m holds is none put e = on_blank _ (λ hold. Is hold × (m ≡ status_number Done)) holds put.1.0 (e ∙ put.1.1 ∙ ap status_number none)

pub splits : {B : Type 0} (made : Result B Status) (value : B → Hold) (p q : Pass) (n m : ℤ) (holds : List Hold) → IfOk made (λ b. IsSplit p q (value b).pass) → IfErr made (λ status. status ≡ NoMemory) → IfErr made (λ _. view q ≡ view p)
    → IsPut made value n holds → m ≡ n → MaySplit p q holds × ShowsSplit holds m holds
splits (Ok b) value p q n m holds is none same put e =
    (on_hold _ (λ other. IsSplit p q other.pass) holds (value b) put.0.0 is, (refl, on_hold _ (λ _. m ≡ status_number Done) holds (value b) put.0.0 (e ∙ put.0.1)))
splits (Err status) value p q n m holds is none same put e =
    (on_blank _ (λ other. IsSplit p q other.pass) holds put.1.0 same, (refl, on_blank _ (λ _. m ≡ status_number Done) holds put.1.0 (e ∙ put.1.1 ∙ ap status_number none)))
