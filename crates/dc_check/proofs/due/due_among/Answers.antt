use Rattle.std.proofs.Common.{◌≡◌, ◌∙◌, ◌+◌, ◌∷◌, ap, drop, subst, sym}
use Rattle.std.proofs.lemmas.List.{drop_more}
use Rattle.dc_plain.specs.OwnCalls.{own_request}
use Rattle.dc_check.specs.Judges.{all_numbered, judge_of, numbered_of}
use Rattle.dc_check.proofs.Reached.{Stands, due_there, stands_first, stands_taken}
use Rattle.dc_check.proofs.due.due_among.Goals as goal

pub loop-numbered-init : goal.loop-numbered-init
loop-numbered-init c =
    let all = all_numbered c.args.sorted.now in
    subst (Stands c.args.max_inodes all all) (sym c.in_ok-judge.ensures) (stands_first c.args.max_inodes all)

pub loop-numbered-preserved : goal.loop-numbered-preserved
loop-numbered-preserved c =
    let all = all_numbered c.args.sorted.now in
    let rest = all_numbered (drop (c.loop-numbered.numbered-index + 1) c.args.sorted.now) in
    let split : all_numbered (drop c.loop-numbered.numbered-index c.args.sorted.now) ≡ numbered_of c.numbered-item.result ∷ rest =
    ap all_numbered (drop_more c.args.sorted.now c.loop-numbered.numbered-index c.numbered-item.result c.loop-numbered-test.true) ∙ ap (λ one. numbered_of one ∷ rest) (sym c.numbered-item.is) in
    let stands = subst (λ left. Stands c.args.max_inodes all left (judge_of c.loop-numbered.judge)) split c.loop-numbered.invariant in
    subst (Stands c.args.max_inodes all rest) (sym c.in-Ok.ensures.new) (stands_taken c.args.max_inodes all rest _ _ stands c.in-Ok.ensures.ok)

pub returns-in-Ok-due : goal.returns-in-Ok-due
returns-in-Ok-due c = c.in-Ok-due.ensures.reply ∙ due_there c.args.max_inodes c.args.stamp.now.at _ _ _ (own_request c.args.stamp.now.call) c.loop-numbered.invariant c.in-Ok-due.ensures.ok
