-- What a finder says that is asked for nothing before it stops.
use Rattle.std.specs.Prelude.{◌≡◌, Bool, true, false, [], Some, None}
use Rattle.std.proofs.Common.{refl, sym, subst, ◌∙◌}
use Rattle.dc_names.specs.declared.kind.Kind.TheVariants.{Link}
use Rattle.dc_plain.specs.Facts.{Teller, told_by}
use Rattle.dc_plain.specs.Tellers.{Extends}

-- what it has said: nothing before it stops, and then, as it isn't asked any more, whatever one likes
abbrev pub said_if : Bool → Teller
said_if false = told_by []
said_if true = record { entry = λ d label. Some (Some (d, Link)); text = λ n. None }

itself_extends : (teller : Teller) → Extends teller teller
itself_extends teller = record { entry = λ d label found told. told; text = λ n bytes told. told }

pub nothing_stays : (a b : Bool) → b ≡ a → Extends (said_if a) (said_if b)
nothing_stays a b e = subst (λ c. Extends (said_if a) (said_if c)) (sym e) (itself_extends (said_if a))

pub itself : (a : Bool) → a ≡ a
itself a = refl

pub after_both : (a b c : Bool) → b ≡ a → c ≡ b → c ≡ a
after_both a b c p q = q ∙ p

pub before_both : (a b c : Bool) → b ≡ a → b ≡ c → a ≡ c
before_both a b c p q = sym p ∙ q
