use Rattle.std.proofs.Common.{◌≡◌, ℕ, List, Option, None, take, IfOk, ap, sym, subst, ◌∙◌}
use Rattle.dc_store.specs.Pages.{behind, leads_shown, name_shown}
use Rattle.dc_store.proofs.Named.{names_sorted}
use Rattle.dc_store.proofs.Paged.{range_behind}
use Rattle.dc_store.proofs.names.Names.page.Goals as goal

pub returns-in_ok-new-in-Some-clause-told : goal.returns-in_ok-new-in-Some-clause-told
returns-in_ok-new-in-Some-clause-told c =
    subst (λ (after : Option (List ℕ)). IfOk c.first_of.result (λ page. leads_shown page ≡ take c.args.most (behind after c.args.self.now))) (sym (ap name_shown c.in-Some.is))
    (subst (λ (es : List (List ℕ × ℕ)). IfOk c.first_of.result (λ page. leads_shown page ≡ take c.args.most es))
    (c.range.ensures.between tt ∙ range_behind c.in-Some.name.bytes.now c.in_ok-new-in-Some.ensures c.self.inside.by_name.entries c.self.view_is) c.first_of.ensures)

pub returns-in_ok-new-in-Some-clause-sorted : goal.returns-in_ok-new-in-Some-clause-sorted
returns-in_ok-new-in-Some-clause-sorted c = names_sorted c.self.inside.by_name.entries c.self.view_is c.self.invariant

pub returns-in-None-clause-told : goal.returns-in-None-clause-told
returns-in-None-clause-told c =
    subst (λ (after : Option (List ℕ)). IfOk c.first_of-in-None.result (λ page. leads_shown page ≡ take c.args.most (behind after c.args.self.now))) (sym (ap name_shown c.in-None.is))
    (subst (λ (es : List (List ℕ × ℕ)). IfOk c.first_of-in-None.result (λ page. leads_shown page ≡ take c.args.most es)) (c.range-in-None.ensures.between tt ∙ ap (behind None) c.self.view_is) c.first_of-in-None.ensures)

pub returns-in-None-clause-sorted : goal.returns-in-None-clause-sorted
returns-in-None-clause-sorted c = names_sorted c.self.inside.by_name.entries c.self.view_is c.self.invariant

pub returns-in_err-new-in-Some-clause-sorted : goal.returns-in_err-new-in-Some-clause-sorted
returns-in_err-new-in-Some-clause-sorted c = names_sorted c.self.inside.by_name.entries c.self.view_is c.self.invariant
