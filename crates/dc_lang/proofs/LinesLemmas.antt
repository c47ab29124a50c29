-- The first line of a text.
use Rattle.std.proofs.Common.{◌≡◌, ℕ, zero, suc, subst, ◌+◌, ◌<◌, ◌≤◌, ◌==◌, List, [], ◌∷◌, take, drop, length, true, false, cond, refl, ap, sym, ◌∙◌, arith, add-one}
use Rattle.std.proofs.lemmas.List.{drop-drop}
use Rattle.std.proofs.lemmas.Bool.{eqb-true}
use mathlib.Core.Logic.{dite}
use native.Mathlib.Decide.{dec_lt}
use Rattle.dc_lang.specs.Lines.{lines_of, line_length, whole_lines}
use Rattle.std.specs.List.{onto_first}

pub line_length-le : (bytes : List ℕ) → line_length bytes ≤ length bytes
line_length-le [] = omega arith
line_length-le (b ∷ bs) =
    let rest = line_length-le bs in
    elim (b == 10) as (λ t. cond t 0 (line_length bs + 1) ≤ length (b ∷ bs)) [ true ↦ omega arith | false ↦ omega arith ]

-- a byte before the first line
one_more : (b : ℕ) (bytes : List ℕ) (n : ℕ) → (b ∷ take n bytes) ∷ lines_of (drop (n + 1) bytes) ≡ take (n + 1) (b ∷ bytes) ∷ lines_of (drop (n + 1 + 1) (b ∷ bytes))
one_more b bytes n =
    let line : take (n + 1) (b ∷ bytes) ≡ b ∷ take n bytes = rw add-one refl in
    let rest : drop (n + 1 + 1) (b ∷ bytes) ≡ drop (n + 1) bytes = rw (add-one (n + 1)) refl in
    λ i. sym line i ∷ lines_of (sym rest i)

-- a text of one line, or a line with a newline and the rest
pub first_line_of : (bytes : List ℕ) → 0 < length bytes → lines_of bytes ≡ take (line_length bytes) bytes ∷ lines_of (drop (line_length bytes + 1) bytes)
first_line_of [] h = absurd (omega arith)
first_line_of (b ∷ []) h =
    elim (b == 10) as (λ t. cond t ([] ∷ []) (onto_first b []) ≡ take (cond t 0 (0 + 1)) (b ∷ []) ∷ lines_of (drop (cond t 0 (0 + 1) + 1) (b ∷ []))) [ true ↦ refl | false ↦ refl ]
first_line_of (b ∷ c ∷ bs) h =
    let rest = first_line_of (c ∷ bs) (omega arith) in
    elim (b == 10) as (λ t. cond t ([] ∷ lines_of (c ∷ bs)) (onto_first b (lines_of (c ∷ bs)))
    ≡ take (cond t 0 (line_length (c ∷ bs) + 1)) (b ∷ c ∷ bs) ∷ lines_of (drop (cond t 0 (line_length (c ∷ bs) + 1) + 1) (b ∷ c ∷ bs))) [
      | true ↦ refl
      | false ↦ ap (onto_first b) rest ∙ one_more b (c ∷ bs) (line_length (c ∷ bs))
    ]

-- if the text is cut before the newline, the rest begins with that
pub cut_line : (bytes line rest : List ℕ) (n : ℕ) → 0 < length bytes → n ≡ line_length bytes → line ≡ take n bytes → rest ≡ drop n bytes → lines_of bytes ≡ line ∷ lines_of (drop 1 rest)
cut_line bytes line rest n some is front back =
    let again : drop 1 rest ≡ drop (line_length bytes + 1) bytes = ap (drop 1) back ∙ drop-drop 1 n bytes ∙ ap (λ (k : ℕ). drop (k + 1) bytes) is in
    let whole : line ≡ take (line_length bytes) bytes = front ∙ ap (λ (k : ℕ). take k bytes) is in
    first_line_of bytes some ∙ (λ i. sym whole i ∷ lines_of (sym again i))

not_empty : (b : ℕ) (bs : List ℕ) → (length (b ∷ bs) == 0) ≡ true → ⊥
not_empty b bs e = let none = eqb-true _ _ e in absurd (omega arith)

pub no_rest : (rest : List ℕ) → (length rest == 0) ≡ true → drop 1 rest ≡ rest
no_rest [] e = refl
no_rest (b ∷ bs) e = absurd (not_empty b bs e)

-- where a line without its newline ends, the line with it does, or a byte later
abbrev WholeFirst : List ℕ → ℕ → Type 0
WholeFirst bytes n = whole_lines bytes ≡ take n bytes ∷ whole_lines (drop n bytes)

behind_newline : (b : ℕ) (bs : List ℕ) (n : ℕ) → n ≡ suc 0 → (b ∷ []) ∷ whole_lines bs ≡ take n (b ∷ bs) ∷ whole_lines (drop n (b ∷ bs))
behind_newline b bs n e = rw e refl

no_newline : (b : ℕ) (bs : List ℕ) (n : ℕ) → ((m : ℕ) → 0 < length bs → (line_length bs < length bs → m ≡ line_length bs + 1) → (length bs ≤ line_length bs → m ≡ line_length bs) → WholeFirst bs m)
    → (line_length bs + 1 < length (b ∷ bs) → n ≡ line_length bs + 1 + 1) → (length (b ∷ bs) ≤ line_length bs + 1 → n ≡ line_length bs + 1)
    → onto_first b (whole_lines bs) ≡ take n (b ∷ bs) ∷ whole_lines (drop n (b ∷ bs))
no_newline b [] n next more last = let one : n ≡ suc 0 = last (omega arith) in rw one refl
no_newline b (c ∷ cs) zero next more last = absurd (dite (dec_lt (line_length (c ∷ cs)) (length (c ∷ cs))) (λ less. let is = more (omega arith) in omega arith) (λ past. let is = last (omega arith) in omega arith))
no_newline b (c ∷ cs) (suc n) next more last = ap (onto_first b) (next n (omega arith) (λ less. let is = more (omega arith) in omega arith) (λ past. let is = last (omega arith) in omega arith))

whole_first : (bytes : List ℕ) (n : ℕ) → 0 < length bytes → (line_length bytes < length bytes → n ≡ line_length bytes + 1) → (length bytes ≤ line_length bytes → n ≡ line_length bytes) → WholeFirst bytes n
whole_first [] n h more last = absurd (omega arith)
whole_first (b ∷ bs) n h more last =
    let next : (m : ℕ) → 0 < length bs → (line_length bs < length bs → m ≡ line_length bs + 1) → (length bs ≤ line_length bs → m ≡ line_length bs) → WholeFirst bs m = λ m. whole_first bs m in
    let by = elim (b == 10) as (λ t. (cond t 0 (line_length bs + 1) < length (b ∷ bs) → n ≡ cond t 0 (line_length bs + 1) + 1) → (length (b ∷ bs) ≤ cond t 0 (line_length bs + 1) → n ≡ cond t 0 (line_length bs + 1))
    → cond t ((b ∷ []) ∷ whole_lines bs) (onto_first b (whole_lines bs)) ≡ take n (b ∷ bs) ∷ whole_lines (drop n (b ∷ bs))) [
      | true ↦ λ f g. (let one = f (omega arith) in behind_newline b bs n (omega arith))
      | false ↦ λ f g. no_newline b bs n next f g
    ] in
    by more last

pub cut_whole : (bytes line rest : List ℕ) (len n : ℕ) → 0 < length bytes → len ≡ line_length bytes → (len < length bytes → n ≡ len + 1) → (length bytes ≤ len → n ≡ len) → line ≡ take n bytes → rest ≡ drop n bytes
    → whole_lines bytes ≡ line ∷ whole_lines rest
cut_whole bytes line rest len n some is more last front back =
    whole_first bytes n some (subst (λ (k : ℕ). k < length bytes → n ≡ k + 1) is more) (subst (λ (k : ℕ). length bytes ≤ k → n ≡ k) is last)
    ∙ (λ i. sym front i ∷ whole_lines (sym back i))
