use Rattle.std.proofs.Common.{◌≤◌, arith, drop, slice_set, sym, ◌∙◌}
use Rattle.dc_names.specs.declared.limits.TheConstants.{PATH_MAX}
use Rattle.dc_ops.proofs.Climbing.{path_so, root_bytes, root_so, short_root, short_so}
use Rattle.dc_ops.proofs.Ways.{finds}
use Rattle.dc_ops.proofs.whereabouts.path_of.Goals as goal

pub returns-in_default-clause-refused : goal.returns-in_default-clause-refused
returns-in_default-clause-refused c = (sym c.is_live.ensures ∙ c.if-not-is_live.false, c.in_default.ensures.long)

pub returns-then-start-lt-PATH_MAX-clause-found : goal.returns-then-start-lt-PATH_MAX-clause-found
returns-then-start-lt-PATH_MAX-clause-found c = let led = c.in-Some.ensures.led in
    finds c.alters_tells_whether_trees_differ.ensures c.args.store.now c.args.number (drop c.in-Some.start c.climb.new.buffer)
    (path_so c.args.store.now c.args.number c.in-Some.start c.climb.new.buffer led c.if-start-lt-PATH_MAX.true) (short_so c.in-Some.start c.climb.new.buffer led.whole)

pub returns-clause-path : goal.returns-clause-path
returns-clause-path c = let led = c.in-Some.ensures.led in let last = c.if-start-lt-PATH_MAX.false in
    let all : PATH_MAX ≤ c.in-Some.start = omega (arith, last) in
    root_so c.args.store.now c.args.number c.in-Some.start c.climb.new.buffer led all (drop 4094 (slice_set c.climb.new.buffer 4094 47)) (root_bytes c.climb.new.buffer led.whole)

pub returns-clause-found : goal.returns-clause-found
returns-clause-found c = let led = c.in-Some.ensures.led in let last = c.if-start-lt-PATH_MAX.false in
    let all : PATH_MAX ≤ c.in-Some.start = omega (arith, last) in
    let bytes = root_bytes c.climb.new.buffer led.whole in
    finds c.alters_tells_whether_trees_differ.ensures c.args.store.now c.args.number (drop 4094 (slice_set c.climb.new.buffer 4094 47))
    (root_so c.args.store.now c.args.number c.in-Some.start c.climb.new.buffer led all (drop 4094 (slice_set c.climb.new.buffer 4094 47)) bytes) (short_root (drop 4094 (slice_set c.climb.new.buffer 4094 47)) bytes)
