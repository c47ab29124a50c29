use Rattle.std.proofs.Common.{◌≡◌, ◌∙◌, ap, min, length, take, replicate}
use Rattle.dc_names.specs.declared.limits.TheConstants.{NAME_MAX}
use Rattle.dc_hold.specs.Buffers.{text_over}
use Rattle.dc_hold.specs.Pages.{entry_written}
use Rattle.dc_hold.specs.declared.pages.TheConstants.{NAME_ROOM}
use Rattle.dc_hold.proofs.pages.dir_entry.Goals as goal

pub returns : goal.returns
returns c =
    let entry = c.args.entry.now in let bytes = c.as_slice-bytes.ensures.value in
    let long : c.min-length.result ≡ min (length entry.name.items) NAME_MAX = c.min-length.ensures ∙ ap (λ xs. min (length xs) NAME_MAX) bytes in
    let name : c.put_text.new.buffer ≡ text_over (replicate NAME_ROOM 0) (take (min (length entry.name.items) NAME_MAX) entry.name.items) =
    c.put_text.ensures ∙ (λ i. text_over (replicate NAME_ROOM 0) (take (long i) (bytes i))) in
    λ i. record { number = entry.number; kind = c.kind_number.ensures i; length = long i; name = name i }
