use Rattle.std.proofs.Common.{◌≡◌, ℕ, List, ◌==◌, Bor, arith, false, map, rules}
use Rattle.std.proofs.lemmas.Grind.{common_steps}
use Rattle.std.proofs.lemmas.List.Elements.{All-map, All-push}
use Rattle.std.proofs.lemmas.Map.Iter.{btree_map_turn, iter_end}
use Rattle.std.specs.Cmp.Lexicographic.{nat_list_cmp_total}
use Rattle.std.specs.Map.Iter.{deref_pair}
use Rattle.dc_store.specs.declared.name_bytes.NameBytes.{NameBytes}
use Rattle.dc_store.proofs.Leading.{leads, none_lead}
use Rattle.dc_store.proofs.names.Names.leading_to.Goals as goal

pub returns-then-target-number-clause-found : goal.returns-then-target-number-clause-found
returns-then-target-number-clause-found c =
    let turn = btree_map_turn deref_pair c.loop-key.yielded c.into_iter-key-iterator.result c.loop-key.key-iterator c.next.new.self c.next.result (c.in-Some.key, c.in-Some.target) c.loop-key.yielded_by c.in-Some.is c.next.ensures.steps nat_list_cmp_total c.self.inside.by_name (search rules) (search rules) in
    leads c.self.inside.by_name.entries c.self.view_is _ _ c.args.number turn.1 (search rules) c.as_slice.ensures

pub returns-clause-none : goal.returns-clause-none
returns-clause-none c =
    let all : map deref_pair c.loop-key.yielded ≡ c.self.inside.by_name.entries = search (rules, iter_end) in
    let each = All-map (λ (e : List ℕ × ℕ). (e.1 == c.args.number) ≡ false) deref_pair c.loop-key.yielded c.loop-key.invariant in
    none_lead c.self.inside.by_name.entries c.self.view_is c.args.number (rw all at each)

pub loop-key-preserved : goal.loop-key-preserved
loop-key-preserved c =
    let other = c.if-target-number.false in
    let differs : (c.in-Some.target.now == c.args.number) ≡ false = grind (arith, common_steps) in
    All-push (λ (x : Bor NameBytes × Bor ℕ). (x.1.now == c.args.number) ≡ false) c.loop-key.yielded (c.in-Some.key, c.in-Some.target) c.loop-key.invariant differs
