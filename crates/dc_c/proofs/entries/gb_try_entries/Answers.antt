use Rattle.std.proofs.Common.{to_z-of_z, SFits, w32, rules}
use Rattle.dc_cache.specs.Pages.{asked_for}
use Rattle.dc_hold.specs.Pages.{MayPage}
use Rattle.dc_c.specs.Pages.{ShowsPage}
use Rattle.dc_c.proofs.Answering.{called, meant, shown, tried}
use Rattle.dc_c.proofs.entries.gb_try_entries.Goals as goal

pub returns : goal.returns
returns c =
    let fits : SFits w32 c.tell.result = search rules in
    let asked = asked_for c.in-Some.asked in
    let got = c.try_entries-tried in
    record {
      pages = meant _ asked _ _ c.in-Some.ensures
          (called (MayPage asked) (ShowsPage c.args.entries.now) c.args.pass.now c.put.new.self _ (c.args.found.now, c.args.entries.now) (c.tell.new.found, c.told_page.new.slots)
          c.in-Some-take.hold.value c.deref_mut.result.now got.new.self got.result c.in-Some-take.ensures.taken c.deref_mut.ensures.value c.put.ensures
          (tried _ _ got.result got.ensures.told got.ensures.held)
          (record { told = shown _ _ _ _ _ c.told_page.ensures.told c.tell.ensures (to_z-of_z fits); entries = c.told_page.ensures.written }));
    }
