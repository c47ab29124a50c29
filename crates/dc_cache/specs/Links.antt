-- What the rows tell of a readlink: it follows no last link, as a look-up that is told not to, so that the reply of that one tells whether it is refused.
use Rattle.std.specs.Prelude.{◌≡◌, ℕ, List}
use Rattle.dc_names.specs.declared.kind.Kind.TheVariants as kinds
use Rattle.dc_plain.specs.declared.call.Follow.TheVariants as follow
use Rattle.dc_plain.specs.declared.call.Stamped.{Stamped}
use Rattle.dc_plain.specs.Requests.{Request, Answer, answer_of}
use Rattle.dc_plain.specs.Requests.Request.{Look, Readlink}
use Rattle.dc_plain.specs.Requests.Answer.{Found}
use Rattle.dc_plain.specs.Runs.{reply_of}
use Rattle.dc_events.specs.Standing.{tree_of}
use Rattle.dc_events.specs.Views.{View}
use Rattle.dc_walk.specs.Fasts.{Keeps, RecordedAlone}
use Rattle.dc_walk.specs.declared.answer.Fast.TheVariants as fasts
use Rattle.dc_cache.specs.declared.links.FastLink as rust_link
use Rattle.dc_cache.specs.declared.links.FastLink.TheVariants as links

-- the look-up that goes where a readlink does
abbrev pub look_there : ℕ → List ℕ → Request
look_there base text = Look base text follow.No

-- after whichever calls that look-up is so answered, a readlink of the path is answered so
abbrev pub ReadsAs : ℕ → List ℕ → Answer → Answer → Type 0
ReadsAs base text looked read = (limit : ℕ) (history : List Request) → reply_of limit (tree_of limit history) (look_there base text) ≡ looked → reply_of limit (tree_of limit history) (Readlink base text) ≡ read

-- what is told of a readlink if that look-up is so answered: its reply, or that it finds a link
abbrev pub TellsOf : ℕ → List ℕ → Stamped → rust_link.FastLink → Type 0
TellsOf base text found (links.Refused stamped) = (stamped.at ≡ found.at) × ReadsAs base text (answer_of found.reply) (answer_of stamped.reply)
TellsOf base text found (links.Link stamped) = (stamped ≡ found) × ((number : ℕ) × (answer_of found.reply ≡ Found number kinds.Link))
TellsOf base text found (links.Again why) = ⊥

-- the look-up was recorded at this point, and nothing else was; a readlink would have been so answered there
pub record RefusedByLook (base : ℕ) (text : List ℕ) (before now : View) (stamped : Stamped) : Type 0 where
  pub looked : Answer
  pub recorded : RecordedAlone (look_there base text) looked stamped.at before now
  pub reads : ReadsAs base text looked (answer_of stamped.reply)

-- the same look-up found a link
pub record FoundLink (base : ℕ) (text : List ℕ) (before now : View) (stamped : Stamped) : Type 0 where
  pub number : ℕ
  pub found : answer_of stamped.reply ≡ Found number kinds.Link
  pub recorded : RecordedAlone (look_there base text) (answer_of stamped.reply) stamped.at before now

-- a refusal or a link is told of by that look-up; without an answer there is a cause, as of a look-up
abbrev pub ReadsFast : (base : ℕ) (text : List ℕ) (buckets : ℕ) (before now : View) → rust_link.FastLink → Type 0
ReadsFast base text buckets before now (links.Refused stamped) = RefusedByLook base text before now stamped
ReadsFast base text buckets before now (links.Link stamped) = FoundLink base text before now stamped
ReadsFast base text buckets before now (links.Again why) = Keeps base text follow.No buckets before now (fasts.Again why)
