use Rattle.std.proofs.Common.{◌≡◌, ℕ, List, [], ◌∷◌, ◌++◌, Option, Some, None, option_map, append_assoc, refl, sym, ap, ◌∙◌}
use Rattle.dc_lang.specs.Reading.{with_first, bytes_in}
use Rattle.dc_lang.proofs.read.bytes_in.Goals as goal

one_more : (front : List ℕ) (b : ℕ) (rest : Option (List ℕ))
    → option_map (λ more. (front ++ b ∷ []) ++ more) rest ≡ option_map (λ more. front ++ more) (with_first (Some b) rest)
one_more front b None = refl
one_more front b (Some more) = ap Some (append_assoc front (b ∷ []) more)

pub bytes-preserved : goal.bytes-preserved
bytes-preserved c =
    ap (λ items. option_map (λ more. items ++ more) (bytes_in c.in-Some.behind.now)) c.in_ok-push.ensures.items
    ∙ one_more c.bytes.bytes.items c.in-Some.byte (bytes_in c.in-Some.behind.now)
    ∙ ap (option_map (λ more. c.bytes.bytes.items ++ more)) (sym c.in-Some.ensures.some)
    ∙ c.bytes.invariant
