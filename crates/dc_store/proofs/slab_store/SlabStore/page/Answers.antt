use Rattle.std.proofs.Common.{◌≡◌, ℕ, List, map, take, IfOk, ap, subst, ◌∙◌}
use Rattle.dc_store.specs.Pages.{behind, entry_told, name_shown, page_told, told_in}
use Rattle.dc_store.proofs.Keeps.{keeps_now}
use Rattle.dc_store.proofs.KeepsRead.{entries_told, no_entries, no_page}
use Rattle.dc_store.proofs.slab_store.SlabStore.page.Goals as goal

pub returns-in_ok-page-in-Some : goal.returns-in_ok-page-in-Some
returns-in_ok-page-in-Some c =
    let now = keeps_now c.self.invariant c.self.view_is in
    let names = entries_told now c.args.dir c.in-Some.inode.now c.in-Some.ensures.value c.in_ok-page-in-Some.ensures.sorted in
    record {
      told = subst (λ (leads : List (List ℕ × ℕ)). IfOk c.with_kinds.result (λ page. page_told page ≡ map (told_in c.args.self.now) leads))
          (c.in_ok-page-in-Some.ensures.told ∙ ap (λ (es : List (List ℕ × ℕ)). take c.args.most (behind (name_shown c.args.after) es)) names)
          c.with_kinds.ensures;
    }

pub returns-in-None : goal.returns-in-None
returns-in-None c =
    let now = keeps_now c.self.invariant c.self.view_is in
    record { told = ap (map entry_told) c.new.ensures.items ∙ no_page c.args.self.now c.args.dir (name_shown c.args.after) c.args.most (no_entries now c.args.dir c.in-None.ensures.value) }
