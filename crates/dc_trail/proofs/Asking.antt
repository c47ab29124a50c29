-- What a question makes of a finder that keeps its trail.
use Rattle.std.proofs.Common.{◌≡◌, ℕ, ◌≤◌, List, [], false, IsTrue, length, take, sym, subst}
use Rattle.dc_names.specs.Paths.{Part}
use Rattle.dc_plain.specs.Facts.{Teller}
use Rattle.dc_plain.specs.Tellers.{Extends}
use Rattle.dc_resolve.specs.Asked.{is_asked, label_of, IsSaidLink}
use Rattle.dc_resolve.specs.Ends.{walk_by}
use Rattle.dc_resolve.specs.declared.finder.Finder.{Ghosts}
use Rattle.dc_trail.specs.Keeping.{entered, outcome_in, said_in, trail_in, Goes, IsFull, MayAskAlong, SameWalk}
use Rattle.dc_trail.specs.Parts.{within, NeedsInTurn}
use Rattle.dc_trail.specs.Questions.{is_among}
use Rattle.dc_trail.specs.declared.trailed.Question.{Question}
use Rattle.dc_trail.specs.declared.trailed.Trailed.{Trailed}
use Rattle.dc_trail.proofs.Telling.{needs_dir, turn_later, turn_on, within_later, within_less, within_on}

-- the same trail
same_trail : {F : Type 0} (f h : Trailed F) → h.len ≡ f.len → h.numbers.now ≡ f.numbers.now → trail_in h ≡ trail_in f
same_trail f h len numbers = λ i. take (len i) (numbers i)

-- a link that was said in directories of the trail was said
pub said_link : (dirs : List ℕ) (t : Teller) (number : ℕ) → IsSaidLink (within dirs t) number → IsSaidLink t number
said_link dirs t number link = (link.0, link.1, (within_less dirs t).entry link.0 link.1 _ link.2)

module _ {F T S : Type 0} (g : Ghosts F T S) (keeps : (a b : F) → g.becomes a b → Extends (g.said a) (g.said b)) where
  -- a part was asked for, and its directory was entered
  pub goes_asked : (f h : Trailed F) (dir : ℕ) (part : Part) → SameWalk f h → IsTrue (is_asked dir part) → MayAskAlong g f dir (label_of part)
      → h.len ≤ length f.numbers.now → trail_in h ≡ entered (trail_in f) dir → g.becomes f.finder.now h.finder.now → Goes g f h
  goes_asked f h dir part same asked may few is becomes =
      let more = keeps f.finder.now h.finder.now becomes in
      record {
        same = same;
        becomes = becomes;
        told = subst (λ dirs. Extends (said_in g f) (within dirs (g.said h.finder.now))) (sym is) (within_on (trail_in f) dir more);
        kept = λ kept. record {
          few = subst (λ n. h.len ≤ n) (sym same.places) few;
          turn = subst (λ (q : Question). NeedsInTurn (walk_by q.base q.path.bytes.now q.follow) (g.said h.finder.now) [] (trail_in h)) (sym same.question)
              (subst (λ dirs. NeedsInTurn (walk_by f.question.base f.question.path.bytes.now f.question.follow) (g.said h.finder.now) [] dirs) (sym is)
              (turn_on (walk_by f.question.base f.question.path.bytes.now f.question.follow) (g.said f.finder.now) (g.said h.finder.now) (trail_in f) dir part more asked may.needed kept.turn));
        };
      }

  -- a text was asked for
  pub goes_text : (f h : Trailed F) → SameWalk f h → h.len ≡ f.len → h.numbers.now ≡ f.numbers.now → g.becomes f.finder.now h.finder.now → Goes g f h
  goes_text f h same len numbers becomes =
      let more = keeps f.finder.now h.finder.now becomes in
      let is = same_trail f h len numbers in
      record {
        same = same;
        becomes = becomes;
        told = subst (λ dirs. Extends (said_in g f) (within dirs (g.said h.finder.now))) (sym is) (within_later (trail_in f) more);
        kept = λ kept. record {
          few = subst (λ n. n ≤ length h.numbers.now) (sym len) (subst (λ n. f.len ≤ n) (sym same.places) kept.few);
          turn = subst (λ (q : Question). NeedsInTurn (walk_by q.base q.path.bytes.now q.follow) (g.said h.finder.now) [] (trail_in h)) (sym same.question)
              (subst (λ dirs. NeedsInTurn (walk_by f.question.base f.question.path.bytes.now f.question.follow) (g.said h.finder.now) [] dirs) (sym is)
              (turn_later (walk_by f.question.base f.question.path.bytes.now f.question.follow) (g.said f.finder.now) (g.said h.finder.now) more [] (trail_in f) kept.turn));
        };
      }

  -- there was no place for the directory of a part
  pub is_full : (f h : Trailed F) (dir : ℕ) (part : Part) → h ≡ f → IsTrue (is_asked dir part) → MayAskAlong g f dir (label_of part)
      → f.len ≡ length f.numbers.now → is_among (trail_in f) dir ≡ false → IsFull g h
  is_full f h dir part same asked may full new = subst (IsFull g) (sym same) (record {
    kept = may.kept;
    full = full;
    next = dir;
    new = new;
    needed = needs_dir (outcome_in f) (said_in g f) dir part asked may.needed;
  })
