use Rattle.std.proofs.Common.{◌≡◌, ◌≤◌, map}
use Rattle.dc_plain.specs.Requests.{answer_of}
use Rattle.dc_table.specs.Holders.{table_of}
use Rattle.dc_table.specs.Passes.{known, share, view, Fits, StaysOut}
use Rattle.dc_walk.specs.Findings.{view_in}
use Rattle.dc_walk.specs.Finds.{use_shown}
use Rattle.dc_walk.specs.Looks.{look_shown}
use Rattle.dc_walk.specs.Settling.{IsChecking}
use Rattle.dc_walk.proofs.Trues.{WereSoFar}
use Rattle.dc_walk.proofs.settle.settle.Given as goal

abbrev pub invariant-loop-c : goal.invariant-loop-c
invariant-loop-c l =
    let before = view_in l.fn.begun l.fn.pass l.fn.look in record {
      fits : Fits (table_of l.fn.reader) l.pass;
      stays : StaysOut l.fn.pass l.pass;
      reply : l.reply ≡ l.initial.reply;
      later : before.book.seen ≤ l.at;
      were : WereSoFar (known l.pass) (share l.fn.pass).limit l.fn.used l.at l.c;
      checking : IsChecking (look_shown l.fn.look) (answer_of l.initial.reply) (map use_shown l.fn.used.items) before l.at l.c (view l.pass);
    }
