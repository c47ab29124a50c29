use Rattle.std.proofs.Common.{◌<◌, ◌+◌, ◌-◌, ◌*◌, refl, arith, rules, ◌∙◌}
use Rattle.dc_resolve.proofs.Needed.{first_over, text_of}
use Rattle.dc_resolve.proofs.Passing.{kept_at_link, refused_at_link}
use Rattle.dc_resolve.proofs.Spending.{may_text, over_link}
use Rattle.dc_resolve.proofs.Walking.{may_next, may_go_over, may_pass, spent_all, text_leads, walk_ended, walk_over, walk_stops, walked_on, walked_through}
use Rattle.dc_resolve.proofs.resolution.+over_links.Goals as goal

pub walk_bytes-ask_first-requires-clause-may : goal.walk_bytes-ask_first-requires-clause-may
walk_bytes-ask_first-requires-clause-may g t c = first_over g.F.Finder c.requires.may c.parts.invariant.kept c.parts.invariant.came

pub walk_bytes-ask_first-requires-clause-spend : goal.walk_bytes-ask_first-requires-clause-spend
walk_bytes-ask_first-requires-clause-spend g t c = may_next g.F.Finder c.parts.invariant c.requires.spend

pub walk_bytes-returns-in_default-clause-left : goal.walk_bytes-returns-in_default-clause-left
walk_bytes-returns-in_default-clause-left g t c = spent_all g.F.Finder c.parts.invariant c.in_ok-reached.ensures c.in_default.is c.at_end.result c.at_end.ensures.left

pub walk_bytes-returns-in_default-clause-leads : goal.walk_bytes-returns-in_default-clause-leads
walk_bytes-returns-in_default-clause-leads g t c = walk_over g.F.Finder c.parts.invariant c.in_ok-reached.ensures g.met.F.Finder.keeps c.in_default.is (c.at_end.ensures.leads _)

pub walk_bytes-parts-preserved-in-Dir : goal.walk_bytes-parts-preserved-in-Dir
walk_bytes-parts-preserved-in-Dir g t c = let m = g.met.F.Finder in walked_on g.F.Finder m.goes_on m.keeps c.parts.invariant c.in_ok-reached.ensures c.in-Some.is c.in-Dir.is refl

pub walk_bytes-parts-preserved-in-File : goal.walk_bytes-parts-preserved-in-File
walk_bytes-parts-preserved-in-File g t c = let m = g.met.F.Finder in walked_on g.F.Finder m.goes_on m.keeps c.parts.invariant c.in_ok-reached.ensures c.in-Some.is c.in-File.is refl

pub walk_bytes-returns-in-Stops-clause-leads : goal.walk_bytes-returns-in-Stops-clause-leads
walk_bytes-returns-in-Stops-clause-leads g t c = let m = g.met.F.Finder in walk_stops g.F.Finder m.goes_on m.keeps c.parts.invariant c.in_ok-reached.ensures c.in-Some.is c.in-Stops.is

pub walk_bytes-walk_link-requires : goal.walk_bytes-walk_link-requires
walk_bytes-walk_link-requires g t c = let m = g.met.F.Finder in let less : 2 * c.parts.left < t = omega (arith, c.parts.invariant.fewer) in
    let may = may_pass g.F.Finder m.goes_on m.keeps c.parts.invariant c.in_ok-reached.ensures c.in-Some.is c.in-Meets.is c.is_end-is_last.ensures c.requires.may c.requires.spend in search (rules, less, may.0, may.1.0, may.1.1)

pub walk_bytes-returns-in-Ended-clause-leads : goal.walk_bytes-returns-in-Ended-clause-leads
walk_bytes-returns-in-Ended-clause-leads g t c = let m = g.met.F.Finder in walk_ended g.F.Finder m.goes_on m.keeps c.parts.invariant c.in_ok-reached.ensures c.in-Some.is c.in-Meets.is c.is_end-is_last.ensures c.in_ok-end-in-Meets.ensures c.in-Ended.is

pub walk_bytes-parts-preserved : goal.walk_bytes-parts-preserved
walk_bytes-parts-preserved g t c = let m = g.met.F.Finder in walked_through g.F.Finder m.goes_on m.keeps c.parts.invariant c.in_ok-reached.ensures c.in-Some.is c.in-Meets.is c.is_end-is_last.ensures c.in_ok-end-in-Meets.ensures c.in-Through.is

pub walk_link-returns-then-is_kept-clause-leads : goal.walk_link-returns-then-is_kept-clause-leads
walk_link-returns-then-is_kept-clause-leads g t c = kept_at_link (let is = c.is_kept.ensures in cc)

pub walk_link-returns-then-links-eq0-clause-leads : goal.walk_link-returns-then-links-eq0-clause-leads
walk_link-returns-then-links-eq0-clause-leads g t c = refused_at_link (let is = c.is_kept.ensures in cc) c.if-links-eq0.true

pub walk_link-link_text-requires-clause-may : goal.walk_link-link_text-requires-clause-may
walk_link-link_text-requires-clause-may g t c = text_of g.F.Finder c.args.follow c.args.slash c.args.at g.met.F.Finder.stays c.requires.may (let is = c.is_kept.ensures in cc) (omega arith)

pub walk_link-link_text-requires-clause-spend : goal.walk_link-link_text-requires-clause-spend
walk_link-link_text-requires-clause-spend g t c = may_text g.F.Finder c.args.links (omega arith) c.requires.spend

pub walk_link-walk_bytes-requires : goal.walk_link-walk_bytes-requires
walk_link-walk_bytes-requires g t c = let m = g.met.F.Finder in let text = c.in_ok-text.ensures in let less : 2 * (c.args.links - 1) + 1 < t = omega arith in
    let may = may_go_over g.F.Finder m.goes_on m.keeps c.args.follow c.args.slash c.args.is_last c.args.at (let is = c.is_kept.ensures in cc) (omega arith) text.told (c.known-path.ensures ∙ c.bytes.ensures) c.bytes-2.ensures.bytes c.base_of-base.ensures c.slash_after-ends.ensures m.spends_less c.requires.may c.requires.spend text.becomes text.left in search (rules, less, may.0, may.1)

pub walk_link-returns-clause-leads : goal.walk_link-returns-clause-leads
walk_link-returns-clause-leads g t c = let m = g.met.F.Finder in let text = c.in_ok-text.ensures in let over = c.walk_bytes.ensures in
    text_leads g.F.Finder m.goes_on m.keeps c.args.follow c.args.slash c.args.is_last c.args.at (let is = c.is_kept.ensures in cc) (omega arith) text.told (c.known-path.ensures ∙ c.bytes.ensures) c.bytes-2.ensures.bytes c.base_of-base.ensures c.slash_after-ends.ensures c.walk_bytes.result over.kept over.leads over.through

pub walk_link-returns-clause-left : goal.walk_link-returns-clause-left
walk_link-returns-clause-left g t c = over_link g.F.Finder g.met.F.Finder.spends_less c.args.links (omega arith) (c.bytes-2.ensures.bytes ∙ c.known-path.ensures ∙ c.bytes.ensures) c.in_ok-text.ensures.left c.walk_bytes.new.finder c.walk_bytes.result c.walk_bytes.ensures.left
