use Rattle.std.proofs.Common.{◌≡◌, Some, ap, sym, ◌∙◌, nat_eq}
use Rattle.std.specs.Cmp.Lexicographic.{pointwise}
use Rattle.dc_plain.specs.Facts.{label_bytes}
use Rattle.dc_plain.specs.Facts.Fact.{Leads}
use Rattle.dc_row.proofs.Labels.{parent_is, entry_is}
use Rattle.dc_row.proofs.reading.label_in.Goals as goal

pub returns-in_err-text : goal.returns-in_err-text
returns-in_err-text c = λ d label target s. let no = c.in_err-text.ensures (Some (Leads d label target)) s in absurd (cc)

pub returns-then-eq : goal.returns-then-eq
returns-then-eq c = λ d label target s.
    let is : c.in_ok-text.text ≡ label_bytes label = let yes = c.in_ok-text.ensures (Some (Leads d label target)) s in cc in
    ap Some (parent_is d label target c.in_ok-text.text s.allowed is (sym (c.eq.ensures ∙ (λ i. pointwise nat_eq (c.bytes.ensures.bytes i) (c.as_slice.ensures i))) ∙ c.if-eq.true))

pub returns-else-eq : goal.returns-else-eq
returns-else-eq c = λ d label target s.
    let is : c.in_ok-text.text ≡ label_bytes label = let yes = c.in_ok-text.ensures (Some (Leads d label target)) s in cc in
    ap Some (entry_is d label target c.in_ok-text.text s.allowed is (sym (c.eq.ensures ∙ (λ i. pointwise nat_eq (c.bytes.ensures.bytes i) (c.as_slice.ensures i))) ∙ c.if-eq.false))
