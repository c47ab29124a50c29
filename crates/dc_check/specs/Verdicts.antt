-- What the judge of the program makes of stamps.
use Rattle.std.specs.Prelude.{◌≢◌, ◌↔◌, ℕ, List}
use Rattle.dc_lang.specs.Spans.{InPhases}
use Rattle.dc_plain.specs.Legal.{Stamp, IsLegal}
use Rattle.dc_check.specs.declared.stamp.Judged.{Judged}
use Rattle.dc_check.specs.declared.stamp.Judged.TheVariants as judged
use Rattle.dc_check.specs.declared.stamp.Verdict.TheVariants.{Legal}
use Rattle.dc_check.specs.Judges.{all_spans}
use Rattle.dc_check.specs.Phases.{spans_of}
use Rattle.dc_check.specs.Stamps.{stamps_of}
use Rattle.dc_check.specs.declared.stamp.Stamp as rust_stamp

-- one plain tree explains the stamps, and none of their calls took effect before one of an earlier phase
abbrev pub AreExplained : ℕ → List ℕ → List rust_stamp.Stamp → Type 0
AreExplained limit phases stamps = IsLegal limit (stamps_of stamps) × InPhases (spans_of limit phases (stamps_of stamps))

-- legal stamps, with calls that keep the order of the phases exactly if those of the stamps do
pub record IsLegalAs (limit : ℕ) (phases : List ℕ) (stamps : List Stamp) (Kept : Type 0) : Type 0 where
  pub is : IsLegal limit stamps
  pub phased : Kept ↔ InPhases (spans_of limit phases stamps)

abbrev pub IsJudged : ℕ → List ℕ → List Stamp → Judged → Type 0
IsJudged limit phases stamps (judged.Legal marks) = IsLegalAs limit phases stamps (InPhases (all_spans marks.items))
IsJudged limit phases stamps (judged.Other verdict) = (verdict ≢ Legal) × (IsLegal limit stamps → ⊥)
