-- What a look-up along its trail has told under the lock, it has told since before that.
use Rattle.std.proofs.Common.{◌≡◌, ◌++◌, ◌∷◌, [], ◌∙◌, ap, arith, ℕ, List, subst, sym, Result, Ok, Err}
use Rattle.dc_plain.specs.declared.call.Follow.{Follow}
use Rattle.dc_plain.specs.declared.call.Stamped.{Stamped}
use Rattle.dc_plain.specs.Requests.{Request, Answer, answer_of}
use Rattle.dc_plain.specs.Requests.Request.{Look}
use Rattle.dc_events.specs.Views.{View}
use Rattle.dc_table.specs.Changes.{NothingNew, Recorded, with_words}
use Rattle.dc_table.specs.Passes.{Pass as Seat, known, view}
use Rattle.dc_table.specs.Shares.{Share}
use Rattle.dc_cache.specs.Trails.{ToldAlongTo}
use Rattle.dc_cache.specs.declared.along.TooFewPlaces.{TooFewPlaces}

module _ (base : ℕ) (text : List ℕ) (how : Follow) (places : List ℕ) where
  along_since : (limit : ℕ) (history : List Request) (v u w : View) (told : Result (Stamped × ℕ) TooFewPlaces) → NothingNew v u → ToldAlongTo limit history u w base text how places told → ToldAlongTo limit history v w base text how places told
  along_since limit history v u w (Ok told) none is = let r = is.recorded in record {
    recorded = record {
      altered = r.altered;
      own = r.own ∙ ap (λ own. own ++ record { call = Look base text how; reply = answer_of told.0.reply; at = told.0.at; altered = r.altered } ∷ []) none.own;
      joined = r.joined ∙ none.joined;
      later = omega (arith, none.later, r.later);
      seen = r.seen;
      past = r.past;
    };
    has = is.has;
  }
  along_since limit history v u w (Err fault) none is = record {
    nothing = record { own = is.nothing.own ∙ none.own; joined = is.nothing.joined ∙ none.joined; later = omega (arith, none.later, is.nothing.later) };
    longer = is.longer;
  }

  pub along_with : (a b : Share) (history : List Request) (v u w : View) (told : Result (Stamped × ℕ) TooFewPlaces) → b ≡ a → NothingNew v u → ToldAlongTo b.limit history u w base text how places told → ToldAlongTo a.limit history v w base text how places told
  along_with a b history v u w told same none is = along_since a.limit history v u w told none (subst (λ s. ToldAlongTo s.limit history u w base text how places told) same is)

  -- the seat that came back is the one that the pass has, and the history that of its hold
  pub along_back : (limit : ℕ) (history : List Request) (v : View) (back seat : Seat) (told : Result (Stamped × ℕ) TooFewPlaces) → seat ≡ back → history ≡ (known back).got.history
      → ToldAlongTo limit history v (view back) base text how places told → ToldAlongTo limit (known seat).got.history v (view seat) base text how places told
  along_back limit history v back seat told same of is = subst (λ s. ToldAlongTo limit (known s).got.history v (view s) base text how places told) (sym same) (subst (λ l. ToldAlongTo limit l v (view back) base text how places told) of is)

-- what was recorded since words of rows were written was recorded since before that
pub recorded_before : {v u w : View} {words : List ℕ} {call : Request} {reply : Answer} {at : ℕ} → u ≡ with_words v words → Recorded u w call reply at → Recorded v w call reply at
recorded_before {v = v} {w = w} {call = call} {reply = reply} {at = at} is since = let r = subst (λ (x : View). Recorded x w call reply at) is since in
    record { altered = r.altered; own = r.own; joined = r.joined; later = r.later; seen = r.seen; past = r.past }
