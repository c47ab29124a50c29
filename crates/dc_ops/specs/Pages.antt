-- A page of the entries of a directory that a look-up found.
use Rattle.std.specs.Prelude.{ℕ, List, [], Option}
use Rattle.dc_plain.specs.Requests.{Answer}
use Rattle.dc_plain.specs.Requests.Answer.{Found, Done, Nothing, Bytes, Names, Counted, Refused}
use Rattle.dc_plain.specs.Trees.{Tree}
use Rattle.dc_store.specs.Pages.{Told, page_of}

-- the entries behind a name, at most this many, of the directory that an answer names; none if it is a refusal
abbrev pub page_by : Tree → Option (List ℕ) → ℕ → Answer → List Told
page_by t after most (Found number kind) = page_of t number after most
page_by t after most (Done number) = []
page_by t after most Nothing = []
page_by t after most (Bytes bytes) = []
page_by t after most (Names names) = []
page_by t after most (Counted number kind count) = []
page_by t after most (Refused number) = []

-- an answer of a look-up that is no refusal
abbrev pub IsFound : Answer → Type 0
IsFound (Found number kind) = Unit {0}
IsFound (Done number) = ⊥
IsFound Nothing = ⊥
IsFound (Bytes bytes) = ⊥
IsFound (Names names) = ⊥
IsFound (Counted number kind count) = ⊥
IsFound (Refused number) = ⊥
