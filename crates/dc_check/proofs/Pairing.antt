-- The commands that were served, and the sessions of their replies.
use Rattle.std.proofs.Common.{◌≡◌, ℕ, ◌+◌, List, [], ◌∷◌, ◌++◌, Result, IfOk, IfErr, Vec, Global, map, ap, ◌∙◌, refl, subst}
use Rattle.std.proofs.lemmas.List.{map-append}
use Rattle.std.proofs.lemmas.Result.{IfOk-weaker, MatchResult-weaker}
use Rattle.dc_lang.specs.declared.input.Served.{Served}
use Rattle.dc_lang.specs.Commands.{Meaning, Order}
use Rattle.dc_lang.specs.Inputs.{AllTell}
use Rattle.dc_lang.specs.Phases.{by_session, in_order, served_from}
use Rattle.dc_lang.specs.Responses.{Response}
use Rattle.dc_lang.specs.Served.{all_served, served_of}
use Rattle.dc_check.specs.declared.record.RecordFault.{RecordFault}
use Rattle.dc_check.specs.declared.record.RecordFault.TheVariants.{BadLine, Unpaired, NoMemory}
use Rattle.dc_lang.specs.Bases.{first_bases}
use Rattle.dc_check.specs.declared.stamp.Stamp as rust_stamp
use Rattle.dc_check.specs.Records.{ArePaired, AreRead, AreSessions, AreStamped, IsPairFault, IsRecord, IsRecordFault, orders_of, served_orders, stamps_from}
use Rattle.dc_check.specs.Stamps.{stamps_of}

pub sessions_below : (lines : List (List ℕ)) (told : List Response) → AllTell lines told → AreSessions told
sessions_below [] [] tell = tt
sessions_below [] (r ∷ rs) tell = absurd tell
sessions_below (l ∷ ls) [] tell = absurd tell
sessions_below (l ∷ ls) (r ∷ rs) tell = (tell.0.is.session, sessions_below ls rs tell.1)

numbered : (phase : ℕ) (orders : List Order) → map (λ (p : ℕ × Order). p.1) (map (λ order. (phase, order)) orders) ≡ orders
numbered phase [] = refl
numbered phase (o ∷ os) = ap (λ l. o ∷ l) (numbered phase os)

seconds : (phase : ℕ) (phases : List (List Order)) → map (λ (p : ℕ × Order). p.1) (served_from phase phases) ≡ in_order phases
seconds phase [] = refl
seconds phase (orders ∷ phases) =
    map-append (λ (p : ℕ × Order). p.1) (map (λ order. (phase, order)) (by_session orders)) (served_from (phase + 1) phases)
    ∙ ap (λ l. l ++ map (λ (p : ℕ × Order). p.1) (served_from (phase + 1) phases)) (numbered phase (by_session orders))
    ∙ ap (λ l. by_session orders ++ l) (seconds (phase + 1) phases)

orders_of_served : (served : List Served) → served_orders served ≡ map (λ (p : ℕ × Order). p.1) (all_served served)
orders_of_served [] = refl
orders_of_served (s ∷ ss) = ap (λ l. (served_of s).1 ∷ l) (orders_of_served ss)

pub served_orders-are : (served : List Served) (phases : List (List Order)) → all_served served ≡ served_from 0 phases → served_orders served ≡ in_order phases
served_orders-are served phases e = orders_of_served served ∙ ap (map (λ (p : ℕ × Order). p.1)) e ∙ seconds 0 phases

-- what doesn't pair is no record
unpaired : (input output : List ℕ) (said : List Meaning) (told : List Response) → AreRead input output said told → (fault : RecordFault) → IsPairFault (orders_of said) told fault → IsRecordFault input output fault
unpaired input output said told read (BadLine n) is = absurd is
unpaired input output said told read Unpaired is = record { said = said; told = told; read = read; unpaired = is }
unpaired input output said told read NoMemory is = tt

-- what becomes of the orders of an input with the responses of an output
pub record Pairs (input output : List ℕ) (result : Result (Vec rust_stamp.Stamp Global) RecordFault) : Type 0 where
  pub ok : IfOk result (λ stamps. IsRecord input output (stamps_of stamps.items))
  pub err : IfErr result (IsRecordFault input output)

pub pairs : (input output : List ℕ) (said : List Meaning) (told : List Response) (orders : List Order) (result : Result (Vec rust_stamp.Stamp Global) RecordFault) → AreRead input output said told → orders ≡ orders_of said
    → IfOk result (λ stamps. AreStamped orders told (stamps_of stamps.items)) → IfErr result (IsPairFault orders told) → Pairs input output result
pairs input output said told orders result read is ok err = record {
  ok = IfOk-weaker result _ _ (λ stamps are. record {
    said = said;
    told = told;
    read = read;
    paired = subst (λ (os : List Order). ArePaired os told) is are.paired;
    stamps_are = are.stamps_are ∙ ap (λ (os : List Order). stamps_from first_bases os told) is;
  }) ok;
  err = MatchResult-weaker result err (λ x p. p) (λ fault bad. unpaired input output said told read fault (subst (λ (os : List Order). IsPairFault os told fault) is bad));
}
