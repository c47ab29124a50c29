-- What a pass knows: its view, the sizes of its table, its share, and what it did with the lock. All shares add up to one.
use Rattle.std.specs.Prelude.{◌≡◌, ℕ, ◌+◌, ◌*◌, ◌-◌, ◌^◌, ◌<◌, ◌≤◌, false, List, [], ◌∷◌, ◌++◌, max, refl}
use Rattle.std.specs.Coded.{Coded, code_by, coded×, coded_list, coded_ℕ}
use Rattle.std.specs.FinMap as map
use Rattle.std.specs.List.{AllByRecursion}
use mathlib.Core.Option.{some}
use lib.ListN.{get_elem?}
use Rattle.dc_plain.specs.Requests.{Request}
use Rattle.dc_events.specs.Views.{View}
use Rattle.dc_events.specs.Rule.{total}
use Rattle.dc_events.specs.Effects.{nobody}
use Rattle.dc_events.specs.Passes.{newcomer, joined_with}
use Rattle.dc_shrink.specs.Listings.{listing}
use Rattle.dc_table.specs.ViewCodes.{coded_view}
use Rattle.dc_table.specs.RowStates.{RowState}
use Rattle.dc_table.specs.RowCodes.{coded_rows}
use Rattle.dc_table.specs.Codes.{coded_request}

-- this many parts of a whole that was halved this often, of a table with this limit of inodes and this many rows
pub record Share : Type 0 where
  pub limit : ℕ
  pub rows : ℕ
  pub parts : ℕ
  pub halvings : ℕ

-- a hold of the lock: the rows as they were got with it, and as they were handed back
pub record LockHold : Type 0 where
  pub got : RowState
  pub left : RowState

-- one history is the beginning of another
abbrev pub Begins : List Request → List Request → Type 0
Begins early late = (rest : List Request) × (late ≡ early ++ rest)

-- a hold is one of a history: it was got after a beginning of it, and handed back after one that goes on from there
pub record IsHoldOf (history : List Request) (x : LockHold) : Type 0 where
  pub got : Begins x.got.history x.left.history
  pub left : Begins x.left.history history

-- all these holds are
abbrev pub AreHoldsOf : List Request → List LockHold → Type 0
AreHoldsOf history past = AllByRecursion (IsHoldOf history) past

-- all these are beginnings of a history
abbrev pub AreBeginnings : List Request → List (List Request) → Type 0
AreBeginnings history early = AllByRecursion (λ h. Begins h history) early

-- with how often the pass has tried for the lock, the rows as it last got them with the lock and as it last handed them back, its holds that are over, and the histories up to the pivots of its walks, both the last first
pub record Known : Type 0 where
  pub view : View
  pub share : Share
  pub tries : ℕ
  pub got : RowState
  pub left : RowState
  pub past : List LockHold
  pub pivots : List (List Request)

abbrev pub hold_coded : Coded LockHold
hold_coded = code_by (RowState × RowState) (coded× coded_rows coded_rows) (λ x. (x.got, x.left)) (λ p. record { got = p.0; left = p.1 }) (λ _. refl)

abbrev pub share_coded : Coded Share
share_coded = code_by (ℕ × (ℕ × (ℕ × ℕ))) (coded× coded_ℕ (coded× coded_ℕ (coded× coded_ℕ coded_ℕ)))
    (λ x. (x.limit, (x.rows, (x.parts, x.halvings)))) (λ p. record { limit = p.0; rows = p.1.0; parts = p.1.1.0; halvings = p.1.1.1 }) (λ _. refl)

abbrev pub known_coded : Coded Known
known_coded = code_by (View × (Share × (ℕ × (RowState × (RowState × (List LockHold × List (List Request))))))) (coded× coded_view (coded× share_coded (coded× coded_ℕ (coded× coded_rows (coded× coded_rows (coded× (coded_list hold_coded) (coded_list (coded_list coded_request))))))))
    (λ x. (x.view, (x.share, (x.tries, (x.got, (x.left, (x.past, x.pivots))))))) (λ p. record { view = p.0; share = p.1.0; tries = p.1.1.0; got = p.1.1.1.0; left = p.1.1.1.1.0; past = p.1.1.1.1.1.0; pivots = p.1.1.1.1.1.1 }) (λ _. refl)

abbrev pub with_view : Known → View → Known
with_view k v = record k { view = v }

-- the pass has loaded the clock for a walk, which counts this history
abbrev pub with_pivot : Known → View → List Request → Known
with_pivot k v history = record k { view = v; pivots = history ∷ k.pivots }

-- a pass that knows l, and knew k, has not tried for the lock since, nor given it back
pub record HasNotTried (k l : Known) : Type 0 where
  pub tries : l.tries ≡ k.tries
  pub got : l.got ≡ k.got
  pub left : l.left ≡ k.left
  pub past : l.past ≡ k.past

-- the holds of a pass that has just given the lock back, with these before
abbrev pub one_more : Known → List LockHold → List LockHold
one_more k past = record { got = k.got; left = k.left } ∷ past

-- a pass that knows l, and knew k, has had the lock once since, and given it back
abbrev pub HadOnce : Known → Known → Type 0
HadOnce k l = l.past ≡ one_more l k.past

-- one try more
abbrev pub tried : Known → Known
tried k = record k { tries = k.tries + 1 }

-- half of a share
abbrev pub halved : Share → Share
halved s = record s { halvings = s.halvings + 1 }

-- two shares brought to the greater number of halvings, and added
abbrev pub added : Share → Share → Share
added a b = let top = max a.halvings b.halvings in
    record a { parts = a.parts * 2 ^ (top - a.halvings) + b.parts * 2 ^ (top - b.halvings); halvings = top }

abbrev pub no_share : Share
no_share = record { limit = 0; rows = 0; parts = 0; halvings = 0 }

abbrev pub IsWhole : Share → Type 0
IsWhole s = s.parts ≡ 2 ^ s.halvings

-- what a pass knows of the rows that never had the lock
abbrev pub no_rows : RowState
no_rows = record { history = []; words = []; slots = []; used = listing 0 [] map.empty }

-- a pass that did, saw and tried nothing, with this share
abbrev pub unused : Share → Known
unused s = record { view = nobody; share = s; tries = 0; got = no_rows; left = no_rows; past = []; pivots = [] }

-- the first pass of a table has the whole
abbrev pub first_known : ℕ → ℕ → Known
first_known limit rows = unused (record { limit = limit; rows = rows; parts = 1; halvings = 0 })

-- a pass is cut in two halves, of which the new one has seen what the old one has, and never had the lock
abbrev pub kept_half : Known → Known
kept_half k = record k { share = halved k.share }

abbrev pub new_half : Known → Known
new_half k = record (unused (halved k.share)) { view = newcomer k.view }

-- a pass takes in another, of which nothing is left: it has tried for the lock as often as both, has the holds and the pivots of both, its own first, and knows the rows that it knew
abbrev pub both : Known → Known → Known
both k l = record k { view = joined_with k.view l.view; share = added k.share l.share; tries = k.tries + l.tries; past = k.past ++ l.past; pivots = k.pivots ++ l.pivots }

abbrev pub spent : Known
spent = unused no_share

-- a share in parts of a whole that was halved `top` times
abbrev pub weight : ℕ → Known → ℕ
weight top k = k.share.parts * 2 ^ (top - k.share.halvings)

abbrev pub Everyone : List Known → (Known → Type 0) → Type 0
Everyone passes So = (id : ℕ) (k : Known) → get_elem? passes id ≡ some k → So k

-- a pass that was joined to another has nothing left
pub record IsSpent (v : View) : Type 0 where
  pub own : v.book.own ≡ []
  pub joined : v.book.joined ≡ []
  pub free : v.hold.holds ≡ false

-- the passes name the sizes of their table; those without a part are spent; the shares of all are the whole
pub record Shares (limit rows : ℕ) (passes : List Known) : Type 0 where
  pub top : ℕ
  pub named : Everyone passes (λ k. 0 < k.share.parts → (k.share.limit ≡ limit) × (k.share.rows ≡ rows))
  pub spent : Everyone passes (λ k. k.share.parts ≡ 0 → IsSpent k.view)
  pub few : Everyone passes (λ k. k.share.halvings ≤ top)
  pub whole : total (weight top) passes ≡ 2 ^ top
