-- What one more name makes of a caller's bytes.
use Rattle.std.proofs.Common.{◌≡◌, ◌∙◌, ◌<◌, ◌≤◌, ◌+◌, ◌-◌, ◌++◌, ℕ, suc, List, [], ◌∷◌, Option, Some, None, MatchOption, IfSome, IfNone, length, take, drop, set, sym, ap, subst, arith, append_assoc, if◌then◌else◌, length-append, drop-cons, get_or}
use Rattle.std.proofs.lemmas.Bool.{lt-ltb, le-ltb}
use Rattle.std.proofs.lemmas.List.{set_split, take_at, drop_at, drop-drop, length-drop, length-take-le, take-append-drop}
use Rattle.std.proofs.lemmas.Slice.{take-put_mid, drop-put_mid}
use Rattle.std.specs.Global.{Vec}
use borrow.Rule.Slice.PartMut.{put_mid}
use Rattle.dc_hold.specs.Buffers.{names_over}

-- a name that was copied to a place within a buffer, with a zero byte behind it
pub put_at : (bytes name copy : List ℕ) (at k end : ℕ) → end ≡ at + length name → k ≡ end - at → end < length bytes → copy ≡ name
    → set (put_mid at k bytes copy) end 0 ≡ take at bytes ++ name ++ 0 ∷ drop (end + 1) bytes
put_at bytes name copy at k end is many fits same =
    let sized : length copy ≡ length name = ap length same in
    let long : length (put_mid at k bytes copy) ≡ length bytes =
    let all = length-append (take at bytes) (copy ++ drop k (drop at bytes)) in let part = length-append copy (drop k (drop at bytes)) in
    let kept = length-take-le at bytes (omega arith) in let past = length-drop at bytes in let left = length-drop k (drop at bytes) in omega arith in
    let front : take end (put_mid at k bytes copy) ≡ take at bytes ++ name = take-put_mid at k bytes copy end (omega arith) (omega arith) ∙ ap (λ xs. take at bytes ++ xs) same in
    let next : suc end ≡ end + 1 = omega arith in
    let back : drop (suc end) (put_mid at k bytes copy) ≡ drop (end + 1) bytes = drop-put_mid at k bytes copy (suc end) (omega arith) (omega arith) (omega arith) ∙ ap (λ n. drop n bytes) next in
    set_split (put_mid at k bytes copy) end 0 (omega arith) ∙ (λ i. front i ++ 0 ∷ back i)

-- so far all names make of a buffer what stands in it, with what those to come make of the bytes from the next place on; or one had no room, and it stands already
abbrev pub Writes : List ℕ → List ℕ → List (Vec ℕ) → Option ℕ → Type 0
Writes whole bytes names next = MatchOption next (whole ≡ bytes) (λ at. (at ≤ length bytes) × (whole ≡ take at bytes ++ names_over (drop at bytes) names))

fitting : (bytes : List ℕ) (name : Vec ℕ) (names : List (Vec ℕ)) → length name.items < length bytes
    → names_over bytes (name ∷ names) ≡ name.items ++ 0 ∷ names_over (drop (length name.items + 1) bytes) names
fitting bytes name names fits = ap (λ b. if b then name.items ++ 0 ∷ names_over (drop (length name.items + 1) bytes) names else bytes) (lt-ltb _ _ fits)

ending : (bytes : List ℕ) (name : Vec ℕ) (names : List (Vec ℕ)) → length bytes ≤ length name.items → names_over bytes (name ∷ names) ≡ bytes
ending bytes name names full = ap (λ b. if b then name.items ++ 0 ∷ names_over (drop (length name.items + 1) bytes) names else bytes) (le-ltb _ _ full)

written : (whole bytes after : List ℕ) (at n : ℕ) (name : Vec ℕ) (names : List (Vec ℕ)) → Writes whole bytes (name ∷ names) (Some at) → n ≡ at + length name.items + 1 → n ≤ length bytes
    → after ≡ take at bytes ++ name.items ++ 0 ∷ drop n bytes → Writes whole after names (Some n)
written whole bytes after at n name names so ends fits now =
    let kept = take at bytes ++ name.items in let front = kept ++ 0 ∷ [] in let within = so.0 in
    let long : length front ≡ n = let most = length-append kept (0 ∷ []) in let more = length-append (take at bytes) name.items in let taken = length-take-le at bytes within in omega arith in
    let over : after ≡ front ++ drop n bytes = now ∙ sym (append_assoc kept (0 ∷ []) (drop n bytes)) in
    let there : at + (length name.items + 1) ≡ n = omega arith in
    let rest : drop (length name.items + 1) (drop at bytes) ≡ drop n bytes = drop-drop _ at bytes ∙ ap (λ m. drop m bytes) there in
    let left : drop n after ≡ drop n bytes = ap (drop n) over ∙ drop_at front (drop n bytes) n long in
    let first : take n after ≡ front = ap (take n) over ∙ take_at front (drop n bytes) n long in
    let more : n ≤ length after = let all = ap length over ∙ length-append front (drop n bytes) in omega arith in
    let goes : take at bytes ++ names_over (drop at bytes) (name ∷ names) ≡ front ++ names_over (drop n bytes) names =
    ap (λ xs. take at bytes ++ xs) (fitting (drop at bytes) name names (let sized = length-drop at bytes in omega arith) ∙ ap (λ xs. name.items ++ 0 ∷ names_over xs names) rest)
    ∙ sym (append_assoc kept (0 ∷ []) _ ∙ append_assoc (take at bytes) name.items _) in
    (more, so.1 ∙ goes ∙ sym (λ i. first i ++ names_over (left i) names))

-- the name that comes next was written at the next place, if it fits
pub one_more : (whole bytes after : List ℕ) (at : ℕ) (name : Vec ℕ) (names : List (Vec ℕ)) (next : Option ℕ) → Writes whole bytes (name ∷ names) (Some at)
    → IfSome next (λ n. (n ≡ at + length name.items + 1) × (n ≤ length bytes) × (after ≡ take at bytes ++ name.items ++ 0 ∷ drop n bytes))
    → IfNone next ((length bytes - at ≤ length name.items) × (after ≡ bytes)) → Writes whole after names next
one_more whole bytes after at name names None so some none =
    so.1 ∙ ap (λ xs. take at bytes ++ xs) (ending (drop at bytes) name names (let long = length-drop at bytes in omega (arith, none.0))) ∙ take-append-drop at bytes ∙ sym none.1
one_more whole bytes after at name names (Some n) so some none = written whole bytes after at n name names so some.0 some.1 some.2
