-- Records that rise, and books that grow by them.
use Rattle.std.proofs.Common.{◌≡◌, ℕ, ◌+◌, ◌≤◌, Bool, true, false, List, [], ◌∷◌, ◌++◌, length, refl, ap, sym, ◌∙◌, subst, append_assoc, arith}
use Rattle.std.proofs.lemmas.List.{append-nil, length-append, length-map, map-append}
use Rattle.std.proofs.lemmas.List.Concat.{flat_map-append}
use Rattle.std.proofs.Math.Nat.{le_refl}
use Rattle.dc_events.specs.Standing.{Rising, after, ends}
use Rattle.dc_events.specs.Views.{Book, Record, View}
use Rattle.dc_lang.specs.Commands.{Order, request_from}
use Rattle.dc_lang.specs.Replies.{reply_text}
use Rattle.dc_plain.specs.Requests.{Answer, Request}
use Rattle.dc_table.specs.Changes.{Recorded}
use Rattle.dc_serve.specs.Sessions.{AskedBy, Obeyed, Progress, RecordedAll, RecordedSome, progress}
use Rattle.dc_lang.specs.Bases.{base_after}
use Rattle.dc_serve.specs.Turns.{Turn, orders_of, records_of, text_of, turn_text}

pub ends-append : (p : ℕ) (xs ys : List Record) → ends p (xs ++ ys) ≡ ends (ends p xs) ys
ends-append p [] ys = refl
ends-append p (x ∷ xs) ys = ends-append (after x) xs ys

pub rising-append : (p : ℕ) (xs ys : List Record) → Rising p xs → Rising (ends p xs) ys → Rising p (xs ++ ys)
rising-append p [] ys up more = more
rising-append p (x ∷ xs) ys up more = (up.0, rising-append (after x) xs ys up.1 more)

pub rising_from : (p q : ℕ) (xs : List Record) → p ≤ q → Rising q xs → Rising p xs
rising_from p q [] le up = tt
rising_from p q (x ∷ xs) le up = let low = up.0 in (omega arith, up.1)

pub ends_from : (p q : ℕ) (xs : List Record) → p ≤ q → ends p xs ≤ ends q xs
ends_from p q [] le = le
ends_from p q (x ∷ xs) le = le_refl _

pub ends_up : (p : ℕ) (xs : List Record) → Rising p xs → p ≤ ends p xs
ends_up p [] up = le_refl p
ends_up p (x ∷ xs) up = let low = up.0 in let rest = ends_up (after x) xs up.1 in omega arith

recorded_both : (a m b : Book) (xs ys : List Record) → RecordedAll a xs m → RecordedAll m ys b → RecordedAll a (xs ++ ys) b
recorded_both a m b xs ys first then = record {
  own = then.own ∙ ap (λ l. l ++ ys) first.own ∙ append_assoc a.own xs ys;
  joined = then.joined ∙ first.joined;
  rising = rising-append a.seen xs ys first.rising (rising_from _ _ ys first.within then.rising);
  within =
      let far = then.within in
      let near = ends_from (ends a.seen xs) m.seen ys first.within in
      let both = ends-append a.seen xs ys in
      omega arith;
}

pub some_both : (a m b : Book) (j k : ℕ) → RecordedSome j a m → RecordedSome k m b → RecordedSome (j + k) a b
some_both a m b j k first then =
    (first.0 ++ then.0, recorded_both a m b first.0 then.0 first.1 then.1, (let l = length-append first.0 then.0 in let x = first.2 in let y = then.2 in omega arith))

pub some_more : (a b : Book) (j k : ℕ) → j ≤ k → RecordedSome j a b → RecordedSome k a b
some_more a b j k le s = (s.0, s.1, (let x = s.2 in omega arith))

pub obeyed_some : (a b : Book) (before then : Progress) (orders : List Order) → Obeyed a before orders then b → RecordedSome (length orders) a b
obeyed_some a b before then orders s = (records_of s.turns, s.recorded, few s.turns s.orders_are)
  where
    few : (turns : List Turn) → orders_of turns ≡ orders → length (records_of turns) ≤ length orders
    few turns is = let x = length-map turns (λ t. t.made) in let y = length-map turns (λ t. t.order) in let z = ap length is in omega arith

asked_both : (b m l : ℕ) (xs ys : List Turn) → AskedBy b xs m → AskedBy m ys l → AskedBy b (xs ++ ys) l
asked_both b m l [] ys a then = subst (λ (k : ℕ). AskedBy k ys l) a then
asked_both b m l (x ∷ xs) ys a then = (a.0, asked_both (base_after x.order.verb x.made.reply b) m l xs ys a.1 then)

pub records-append : (xs ys : List Turn) → records_of (xs ++ ys) ≡ records_of xs ++ records_of ys
records-append xs ys = map-append (λ t. t.made) xs ys

pub orders-append : (xs ys : List Turn) → orders_of (xs ++ ys) ≡ orders_of xs ++ orders_of ys
orders-append xs ys = map-append (λ t. t.order) xs ys

pub text-append : (xs ys : List Turn) → text_of (xs ++ ys) ≡ text_of xs ++ text_of ys
text-append xs ys = flat_map-append turn_text xs ys

pub obeyed_both : (a m b : Book) (x y z : Progress) (xs ys : List Order) → Obeyed a x xs y m → Obeyed m y ys z b → Obeyed a x (xs ++ ys) z b
obeyed_both a m b x y z xs ys first then = record {
  turns = first.turns ++ then.turns;
  orders_are = orders-append first.turns then.turns ∙ ap (λ l. l ++ orders_of then.turns) first.orders_are ∙ ap (λ l. xs ++ l) then.orders_are;
  asked = asked_both x.base y.base z.base first.turns then.turns first.asked then.asked;
  told = then.told ∙ ap (λ l. l ++ text_of then.turns) first.told ∙ append_assoc x.text (text_of first.turns) (text_of then.turns) ∙ ap (λ l. x.text ++ l) (sym (text-append first.turns then.turns));
  recorded = subst (λ l. RecordedAll a l b) (sym (records-append first.turns then.turns)) (recorded_both a m b (records_of first.turns) (records_of then.turns) first.recorded then.recorded);
}

-- a call that was answered
recorded_one : (v w : View) (call asked : Request) (reply : Answer) (at : ℕ) → call ≡ asked → (r : Recorded v w call reply at)
    → RecordedAll v.book (record { call = asked; reply = reply; at = at; altered = r.altered } ∷ []) w.book
recorded_one v w call asked reply at is r = record {
  own = r.own ∙ ap (λ (q : Request). v.book.own ++ record { call = q; reply = reply; at = at; altered = r.altered } ∷ []) is;
  joined = r.joined;
  rising = (r.later, tt);
  within = past r.altered refl;
}
  where
    past : (b : Bool) → r.altered ≡ b → after (record { call = asked; reply = reply; at = at; altered = r.altered }) ≤ w.book.seen
    past true e = let less = r.past e in rw e (omega arith)
    past false e = let le = r.seen in rw e (omega arith)

pub obeyed_one : (v w : View) (before : Progress) (order : Order) (call : Request) (reply : Answer) (at : ℕ) (line text : List ℕ) (base : ℕ) → call ≡ request_from before.base order → Recorded v w call reply at
    → line ≡ reply_text order.session reply at → text ≡ before.text ++ line → base ≡ base_after order.verb reply before.base → Obeyed v.book before (order ∷ []) (progress text base) w.book
obeyed_one v w before order call reply at line text base is r line_is text_is base_is = record {
  turns = record { order = order; made = record { call = request_from before.base order; reply = reply; at = at; altered = r.altered } } ∷ [];
  orders_are = refl;
  asked = (refl, base_is);
  told = text_is ∙ ap (λ l. before.text ++ l) (line_is ∙ sym (append-nil (reply_text order.session reply at)));
  recorded = recorded_one v w call (request_from before.base order) reply at is r;
}
