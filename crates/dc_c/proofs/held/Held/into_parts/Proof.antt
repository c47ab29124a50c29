-- A null pointer is that of a blank handle, and of any other what it owns goes to the parts.
use mathlib.Core.Path.{◌≡◌, refl, sym, subst}
use mathlib.Core.List.{List, [], ◌∷◌, ◌++◌}
use lib.Dec.{T, lit<}
use seplogic.Ra.Ura.{Ura}
use mir.Val.{Val, vnull, vstruct, vnil, vcons, of_list, has_ty, WT}
use mir.Raw.{raw as bare}
use base.Logic.{SProp, ent, emp, id⊢, guard, guard_i, never_e}
use base.Fml.{ftrue, fsep}
use prog.Memory.{Memory}
use prog.Routine.{Routine}
use prog.Wp.{WpFn, Tables}
use types.Logic.{Logic, sem}
use contract.Monad.{Fun, fact_use}
use contract.Running.{tables, tables_of}
use sound.WpLaws.{WpFn-mono}
use types.Kit.{Item, at_ret, ‵, raw, given, learn, ◌⊛◌, ◌$◌, ◌∵◌, !, qed, by, move, keep, drop, use0, use1, join, split, fsplit, fjoin, fpick, feq_l, suffices, done}
use types.Match.{live}
use types.Part.{whole, sub, agg}
use types.Run.{stop, fld, lit, bin, no_more, and_then, of_opd, first, branches, skips, exec, returns, returns_within, enter}
use types.ByLocal.{alloc_all, pass_all, free_all, look_at, get, get_in, sets, env}
use denote.Exit.{yes}
use denote.RawPtr.{Ptr, block_ptr, null_ptr, ptr_val, Testable, tests_null}
use denote.Steps.{nothing}
use denote.Triple.Spec.{triple_of}
use denote.Triple.Table.{entered}
use denote.Triple.Walked.{says, Stays, stay_dropped, walk_of, ends_at, Goes-dropped, walk_Meets}
use Rattle.std.specs.declared.option.Option.TheVariants.{None, Some}
use Rattle.std.specs.contracts.option.Option as OP
use Rattle.std.proofs.option.Made.{Some-of, none_of}
use Rattle.std.proofs.alloc.Shapes.{after}
use Rattle.std.proofs.alloc.Calls.{Fits, handle_tells, token, α}
use Rattle.std.proofs.GlobalToken.{dealloc_token-Testable}
use Rattle.std_alloc.proofs.BoxSteps.Form.{D, B, τ, word, box_ty, box_typed}
use Rattle.std_alloc.proofs.BoxSteps.Steps.{box_out, box_in}
use Rattle.std_alloc.proofs.ResultValues.{and_tt}
use Rattle.dc_c.proofs.AsBox.{E, PartsRow as To, FromHeld as From}
use Rattle.dc_hold.specs.contracts.hold.Hold.{the_row as Inner}
use Rattle.dc_c.specs.contracts.held.Held.{the_row as Row}
use Rattle.dc_c.specs.contracts.held.Held.into_parts as F
use Rattle.dc_c.specs.contracts.held.Held.into_parts.Key.{name as #self}
use Rattle.dc_c.proofs.held.Held.into_parts.Statement as stated
use Rattle.dc_c.proofs.held.Held.into_parts.Code as code

abbrev stayed : Stays (F.ended).signature.params (F.ended).kept
stayed = (stay_dropped From yes, tt)

-- the machine's value of a blank handle
abbrev null_word : Val → Val
null_word hv = vstruct (vcons vnull (vcons hv vnil))

null_typed : (hv : Val) → Fits (E).al hv → T (has_ty (box_ty E) (null_word hv)) × WT (null_word hv)
null_typed hv fa = (and_tt (has_ty (α (E).al) hv) fa.0, (record { fits = lit< tt }, (fa.1, tt)))

module _ {M : Type 1} {𝓤 : Ura M} (𝓛 : Logic 𝓤) (at_mem : Memory → SProp 𝓤) (run : Routine → Fun 𝓤) (𝓣 : Tables 𝓤 𝓛.H) (z : (walk_of 𝓛 F.ended stayed (F.clauses 𝓛 at_mem run)).Ghost) where
  open 𝓛 use {H}

  abbrev us : List Val
  us = z.0.4.0

  abbrev h : Row.Denot
  h = z.0.3.0

  abbrev Post : Val → SProp 𝓤
  Post = (walk_of 𝓛 F.ended stayed (F.clauses 𝓛 at_mem run)).post z

  abbrev Goes : List Val → SProp 𝓤
  Goes vs = WpFn 𝓤 H 𝓣.C 𝓣.Λ code.function (vs ++ []) Post

  -- a block that `Global` may free may be compared with null
  may_test : (p : Ptr) → ent 𝓤 (sem 𝓛 (token (E).al h.alloc (bare (τ E)) p)) (guard 𝓤 (Testable p) (sem 𝓛 (token (E).al h.alloc (bare (τ E)) p)))
  may_test p = fact_use 𝓤 (Testable p) (dealloc_token-Testable 𝓛 h.alloc (bare (τ E)) p) (guard_i 𝓤 (Testable p) _)

  by_holds : (xs : List Inner.Denot) → h.holds ≡ xs → ent 𝓤 (sem 𝓛 (Row.own_val (record h { holds = xs }) us)) (Goes us)
  by_holds [] is =
      qed 𝓛 (‵ (Row.own_val (record h { holds = [] }) us) ∷ []) ∵
      fsplit ! $ fpick ! (λ vss. fsplit ! $ feq_l ! (λ ev. fsplit ! $ feq_l ! (λ ep. fsplit ! $ handle_tells (E).al ! h.alloc vss.1.0 (λ hv ea fa. move ! (1 ∷ []) $ drop ! $ move ! (1 ∷ []) $ feq_l ! (λ en. drop ! $
      let ws : us ≡ null_word hv ∷ [] = subst (λ (p : Ptr). us ≡ vstruct (of_list (ptr_val p ∷ hv ∷ [])) ∷ []) en
      (subst (λ (vs : List Val). us ≡ vstruct (of_list (ptr_val h.at ∷ (vs ++ []))) ∷ []) ea (subst (λ (ps : List Val). us ≡ vstruct (of_list (ps ++ (vss.1.0 ++ []))) ∷ []) ep ev)) in
      by ! (subst (λ (vs : List Val). ent 𝓤 (types.Kit.⋆ 𝓛 []) (Goes vs)) (sym ws)
      (qed 𝓛 [] ∵ enter ! 𝓣.C 𝓣.Λ code.function (null_word hv ∷ []) _ $ alloc_all ! (λ ls. pass_all ! refl (null_typed hv fa, tt) $
      sets ! (of_opd ! (get_in ! (fld ! refl (stop !)) (sub ! 0 refl (whole !)))) refl (tt, record { fits = lit< tt }) $ sets ! (of_opd ! (get_in ! (fld ! refl (stop !)) (sub ! 1 refl (whole !)))) refl fa $
      sets ! (bin ! (get ! refl) (lit ! tt) (tests_null null_ptr (lit< tt))) refl (tt, tt) $
      first ! $ branches ! (get ! refl)
      (λ t. sets ! (agg ! (and_then ! (lit ! tt) (no_more !))) refl (tt, (record { fits = lit< tt }, tt)) $
      returns_within ! Post refl (look_at ! 0 refl) $ free_all ! refl $
      use0 𝓛 (‵ ((OP.the_row To).own_val None (live 0 (of_list []) ∷ []))) (none_of 𝓛 To) $
      suffices ! _ (ends_at 𝓛 F.ended stayed (F.clauses 𝓛 at_mem run) z (live 0 (of_list [])) None (tt, tt) (tt, tt)) $ says ! is $
      nothing ! $ nothing ! $ fjoin ! $ join ! $ nothing ! $ join ! $ done !)
      (λ t. absurd t)))))))))
  by_holds (x ∷ []) is =
      let v : D E = record { ptr = h.at; alloc = h.alloc; value = x } in
      let made : To.Denot = record { at = h.at; alloc = h.alloc; value = x } in
      qed 𝓛 (‵ (Row.own_val (record h { holds = x ∷ [] }) us) ∷ []) ∵ use1 𝓛 (‵ ((B E).own_val v us)) (id⊢ 𝓤 _) $
      box_out E ! v us (λ b o hv e ws fa. move ! (1 ∷ []) $
      use1 𝓛 (given (Testable (block_ptr b o)) (‵ (token (E).al h.alloc (bare (τ E)) (block_ptr b o)))) (may_test (block_ptr b o)) $ learn ! (λ may. move ! (1 ∷ []) $
      box_in E ! v b o x e refl $ use1 𝓛 (‵ (To.own_val made (word E hv b o ∷ []))) (id⊢ 𝓤 _) $
      let w = word E hv b o in
      let Γ : List (Item 𝓤) = ‵ (To.own_val made (w ∷ [])) ∷ [] in
      by ! (subst (λ (vs : List Val). ent 𝓤 (types.Kit.⋆ 𝓛 Γ) (Goes vs)) (sym ws)
      (qed 𝓛 Γ ∵ enter ! 𝓣.C 𝓣.Λ code.function (w ∷ []) _ $ alloc_all ! (λ ls. pass_all ! refl (box_typed E hv b o fa, tt) $
      sets ! (of_opd ! (get_in ! (fld ! refl (stop !)) (sub ! 0 refl (whole !)))) refl (tt, tt) $ sets ! (of_opd ! (get_in ! (fld ! refl (stop !)) (sub ! 1 refl (whole !)))) refl fa $
      sets ! (bin ! (get ! refl) (lit ! tt) (tests_null (block_ptr b o) may)) refl (tt, tt) $
      first ! $ branches ! (get ! refl) (λ t. absurd t)
      (λ t. skips ! $ exec ! 𝓣.C 𝓣.Λ (env (code.function).locals ls) (after 4 (code.function).body) (at_ret (env (code.function).locals ls) Post) $
      sets ! (of_opd ! (get ! refl)) refl (tt, tt) $ sets ! (agg ! (and_then ! (get ! refl) (and_then ! (get ! refl) (no_more !)))) refl (box_typed E hv b o fa) $
      use1 𝓛 (‵ ((OP.the_row To).own_val (Some made) (live 1 (of_list (w ∷ [])) ∷ []))) (Some-of 𝓛 To made w) $
      sets ! (agg ! (and_then ! (lit ! tt) (and_then ! (get ! refl) (no_more !)))) refl (and_tt _ (box_typed E hv b o fa).0, (record { fits = lit< tt }, ((box_typed E hv b o fa).1, tt))) $
      returns ! (look_at ! 0 refl) $ free_all ! refl $
      suffices ! _ (ends_at 𝓛 F.ended stayed (F.clauses 𝓛 at_mem run) z (live 1 (of_list (w ∷ []))) (Some made) (tt, tt) (tt, tt)) $ says ! is $
      nothing ! $ nothing ! $ fjoin ! $ join ! $ nothing ! $ join ! $ done !))))))
  by_holds (x ∷ y ∷ xs) is =
      qed 𝓛 (‵ (Row.own_val (record h { holds = x ∷ y ∷ xs }) us) ∷ []) ∵
      fsplit ! $ move ! (1 ∷ []) $ use1 𝓛 (given ⊥ (‵ ftrue)) (never_e 𝓤 _) $ learn ! (λ no. absurd no)

  walk : ent 𝓤 ((walk_of 𝓛 F.ended stayed (F.clauses 𝓛 at_mem run)).pre z) (Goes us)
  walk =
      qed 𝓛 ((‵ ftrue ⊛ ‵ (fsep (Row.own_val h us) ftrue)) ∷ raw (emp 𝓤) ∷ []) ∵ split ! $ drop ! $ fsplit ! $ keep ! (0 ∷ []) $ by ! (by_holds h.holds refl)

pub into_parts_spec : {M : Type 1} → stated.statement M
unfolding tables_of
into_parts_spec 𝓤 𝓛 𝓜 𝓡 wired =
    let 𝓣 : Tables 𝓤 𝓛.H = tables_of 𝓤 𝓛.H 𝓜 (tables 𝓤 𝓛.H 𝓜 𝓡 𝓡.env) in
    entered 𝓤 𝓛.H (triple_of 𝓛 F.signature (F.spec 𝓛 𝓜.mem 𝓡.returns)) 𝓣.C 𝓣.Λ #self code.function (code.unfolded 𝓤 𝓛.H 𝓜 𝓡 wired)
    (walk_Meets 𝓛 F.ended stayed (Goes-dropped 𝓛 0 From yes (λ κs x f. refl), tt) (F.clauses 𝓛 𝓜.mem 𝓡.returns) (WpFn 𝓤 𝓛.H 𝓣.C 𝓣.Λ code.function) (WpFn-mono 𝓤 𝓛.H 𝓛.laws 𝓣 code.function)
    (walk 𝓛 𝓜.mem 𝓡.returns 𝓣))
