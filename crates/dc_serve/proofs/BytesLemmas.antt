-- What is written in several calls.
use Rattle.std.proofs.Common.{◌≡◌, ℕ, ◌+◌, ◌<◌, List, [], ◌∷◌, ◌++◌, length, get_or, take, drop, Option, Some, None, ap, sym, subst, ◌∙◌, append_assoc}
use Rattle.std.proofs.Math.Seq.{take-add}
use Rattle.std.proofs.lemmas.List.{append-nil, take-append-drop, take_more}
use Rattle.std.proofs.lemmas.List.Concat.{flat_map-append}
use Rattle.std.specs.Global.{Vec}
use Rattle.std.specs.Io.KnownBytes.{Appends}
use Rattle.dc_serve.specs.Bytes.{AppendsFront, WritesFront, bytes_of}
use Rattle.dc_serve.specs.declared.fault.ServeFault.{ServeFault}
use Rattle.dc_serve.specs.declared.fault.ServeFault.TheVariants.{BadSize, Read, BadLine, NoMemory, Spent, Write}

-- one text after another
pub appends_both : (a b c : Option (List ℕ)) (xs ys : List ℕ) → Appends a b xs → Appends b c ys → Appends a c (xs ++ ys)
appends_both None b c xs ys first then = tt
appends_both (Some x) None c xs ys first then = absurd first
appends_both (Some x) (Some y) None xs ys first then = absurd then
appends_both (Some x) (Some y) (Some z) xs ys first then = then ∙ ap (λ l. l ++ ys) first ∙ append_assoc x xs ys

-- a front of a text, and a front of the rest
pub appends_more : (a b c : Option (List ℕ)) (text : List ℕ) (n m : ℕ) → Appends a b (take n text) → Appends b c (take m (drop n text)) → Appends a c (take (n + m) text)
appends_more a b c text n m first then =
    subst (λ (bytes : List ℕ). Appends a c bytes) (sym (take-add n m text)) (appends_both a b c (take n text) (take m (drop n text)) first then)

-- one text, and a front of the next
pub front_after : (a b c : Option (List ℕ)) (xs ys zs : List ℕ) → Appends a b xs → AppendsFront b c ys → AppendsFront a c (xs ++ (ys ++ zs))
front_after a b c xs ys zs first then = record {
  front = xs ++ then.front;
  rest = then.rest ++ zs;
  cut = ap (λ (l : List ℕ). xs ++ (l ++ zs)) then.cut ∙ ap (λ (l : List ℕ). xs ++ l) (append_assoc then.front then.rest zs) ∙ sym (append_assoc xs then.front (then.rest ++ zs));
  appends = appends_both a b c xs then.front first then.appends;
}

pub front_of : (a b : Option (List ℕ)) (text : List ℕ) (n : ℕ) → Appends a b (take n text) → AppendsFront a b text
front_of a b text n some = record { front = take n text; rest = drop n text; cut = sym (take-append-drop n text); appends = some }

pub front_whole : (a b : Option (List ℕ)) (text : List ℕ) → Appends a b text → AppendsFront a b text
front_whole a b text all = record { front = text; rest = []; cut = sym (append-nil text); appends = all }

-- some texts and one more
pub bytes_of-push : (texts : List (Vec ℕ)) (text : Vec ℕ) → bytes_of (texts ++ text ∷ []) ≡ bytes_of texts ++ text.items
bytes_of-push texts text = flat_map-append (λ (t : Vec ℕ). t.items) texts (text ∷ []) ∙ ap (λ l. bytes_of texts ++ l) (append-nil text.items)

-- the texts so far, and the next
pub bytes_of-next : (texts : List (Vec ℕ)) (i : ℕ) (text : Vec ℕ) → i < length texts → text ≡ get_or texts i text → bytes_of (take (i + 1) texts) ≡ bytes_of (take i texts) ++ text.items
bytes_of-next texts i text within is =
    ap bytes_of (take_more texts i text within ∙ ap (λ t. take i texts ++ t ∷ []) (sym is)) ∙ bytes_of-push (take i texts) text

-- the texts so far were written, and a front of the next
pub texts_fail : (a b c : Option (List ℕ)) (texts : List (Vec ℕ)) (i : ℕ) (text : Vec ℕ) (fault : ServeFault) → i < length texts → text ≡ get_or texts i text → Appends a b (bytes_of (take i texts)) → WritesFront b c text.items fault
    → WritesFront a c (bytes_of texts) fault
texts_fail a b c texts i text BadSize within is so_far fails = absurd fails
texts_fail a b c texts i text Read within is so_far fails = absurd fails
texts_fail a b c texts i text (BadLine n) within is so_far fails = absurd fails
texts_fail a b c texts i text NoMemory within is so_far fails = absurd fails
texts_fail a b c texts i text Spent within is so_far fails = absurd fails
texts_fail a b c texts i text Write within is so_far fails =
    let rest = bytes_of (drop (i + 1) texts) in
    let whole : bytes_of texts ≡ bytes_of (take i texts) ++ (text.items ++ rest) = ap bytes_of (sym (take-append-drop (i + 1) texts)) ∙ flat_map-append (λ (t : Vec ℕ). t.items) (take (i + 1) texts) (drop (i + 1) texts)
    ∙ ap (λ l. l ++ rest) (bytes_of-next texts i text within is) ∙ append_assoc (bytes_of (take i texts)) text.items rest in
    subst (AppendsFront a c) (sym whole) (front_after a b c (bytes_of (take i texts)) text.items rest so_far fails)
