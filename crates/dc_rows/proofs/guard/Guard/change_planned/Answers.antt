use Rattle.std.proofs.Common.{◌≡◌, ℕ, ◌∙◌, sym, ap, subst₂, rules}
use Rattle.dc_plain.specs.Requests.{request_of, answer_of}
use Rattle.dc_plain.specs.Operations.{operation}
use Rattle.dc_plain.specs.Runs.{tree_after, Touches}
use Rattle.dc_plain.specs.Trees.{Tree}
use Rattle.dc_table.specs.Changes.{tree_now}
use Rattle.dc_table.specs.Passes.{known, share}
use Rattle.dc_rows.specs.Guards.{kept_by, seat_of, rows_of}
use Rattle.dc_rows.specs.Refills.{Retold}
use Rattle.dc_rows.proofs.Made.{declined_as, rows_stay, untouched, altered_tree, retold_as}
use Rattle.dc_rows.proofs.guard.Guard.change_planned.Goals as goal

pub returns-in-Err-clause-made : goal.returns-in-Err-clause-made
returns-in-Err-clause-made w c = let g = c.args.self in let call = request_of c.args.call.now in let limit = (share (seat_of g)).limit in let tree = tree_now (seat_of g) in
    let settled : operation limit tree call ≡ (answer_of c.in-Err.reply, tree) = subst₂ (λ (n : ℕ) (t : Tree). operation n t call ≡ (answer_of c.in-Err.reply, t)) g.rests.same_limit g.rests.tree
    (declined_as (kept_by g).max_inodes (kept_by g).store call c.args.planned c.in-Err.reply c.in-Err.is c.requires.planned) in
    let same : tree_after limit tree call ≡ tree = ap (λ x. x.1) settled in record {
      done = search rules;
      fault = search rules;
      within = search rules;
      at = c.clock-at.ensures ∙ g.rests.clock;
      replied = sym (ap (λ x. x.0) settled);
      rows = rows_stay (Retold (tree_after limit tree call)) (Touches limit tree call) (rows_of g) (known c.answer.result.now).left g.rests.rest.fit.agree c.answer.ensures.freed.left (untouched limit tree call same);
    }

pub returns-in-Ok-altered-clause-made : goal.returns-in-Ok-altered-clause-made
returns-in-Ok-altered-clause-made w c = let g = c.args.self in let call = request_of c.args.call.now in let limit = (share (seat_of g)).limit in let tree = tree_now (seat_of g) in let a = c.alter-altered in
    let h = a.new.self in record {
      done = search rules;
      fault = search rules;
      within = search rules;
      at = c.clock-at.ensures ∙ g.rests.clock;
      replied = c.in-Ok-altered.ensures.ok.replied;
      rows = retold_as (kept_by h).store (tree_after limit tree call) (Touches limit tree call) (rows_of g) (rows_of h) (known c.give-pass.result.now).left
          (h.rests.tree ∙ altered_tree (seat_of g) (seat_of h) call (answer_of c.in-Ok-altered.reply) c.in-Ok-altered.ensures.ok) c.give-pass.ensures.freed.left a.ensures.rows;
    }

pub returns-in-Err-altered-clause-made : goal.returns-in-Err-altered-clause-made
returns-in-Err-altered-clause-made w c = search rules
