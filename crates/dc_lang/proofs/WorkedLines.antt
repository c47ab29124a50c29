-- Lines spelled by the definitions.
use Rattle.std.proofs.Common.{◌≡◌, [], ◌∷◌, ◌++◌, Some, None, refl, codes}
use Rattle.std.specs.Fmt.{digits}
use Rattle.dc_names.specs.declared.kind.Kind.TheVariants.{Dir}
use Rattle.dc_plain.specs.Requests.Answer.{Found, Names}
use Rattle.dc_lang.specs.declared.line.Verb.TheVariants.{Look, Cd, Mkdir, Link, Symlink, Rename}
use Rattle.dc_lang.specs.Words.{spelled}
use Rattle.dc_plain.specs.Requests.Request.{Hard_link, Symlink as Symlink_at}
use Rattle.dc_lang.specs.Commands.{line_text, request_from}
use Rattle.dc_lang.specs.Commands.Meaning.{Sync, Orders}
use Rattle.dc_lang.specs.Reading.{verb_in, meaning_in}
use Rattle.dc_lang.specs.Replies.{reply_text}

-- a space, a newline, a backslash and a zero byte
escapes : spelled (97 ∷ 32 ∷ 10 ∷ 92 ∷ 0 ∷ []) ≡ 97 ∷ 92 ∷ 115 ∷ 92 ∷ 110 ∷ 92 ∷ 92 ∷ 0 ∷ []
escapes = refl

empty : spelled [] ≡ 92 ∷ 101 ∷ []
empty = refl

mkdir_line : line_text (Orders (record { session = 15; verb = Mkdir; words = (47 ∷ 97 ∷ []) ∷ [] })) ≡ codes "15 mkdir /a"
unfolding digits
mkdir_line = refl

rename_line : line_text (Orders (record { session = 2; verb = Rename; words = codes "a b" ∷ codes "b" ∷ [] })) ≡ codes "2 rename a\\sb b"
unfolding digits
rename_line = refl

found_line : reply_text 0 (Found 2 Dir) 1 ≡ codes "0 is 2 dir @1" ++ 10 ∷ []
unfolding digits
found_line = refl

no_names : reply_text 0 (Names []) 2 ≡ codes "0 names @2" ++ 10 ∷ []
unfolding digits
no_names = refl

-- lines that are read
look_line : meaning_in (codes "0 look /") ≡ Some (Orders (record { session = 0; verb = Look; words = codes "/" ∷ [] }))
unfolding meaning_in verb_in
look_line = refl

empty_path : meaning_in (codes "15 cd \\e") ≡ Some (Orders (record { session = 15; verb = Cd; words = [] ∷ [] }))
unfolding meaning_in verb_in
empty_path = refl

escaped_word : meaning_in (codes "0 mkdir a\\sb\\nc\\\\e") ≡ Some (Orders (record { session = 0; verb = Mkdir; words = (97 ∷ 32 ∷ 98 ∷ 10 ∷ 99 ∷ 92 ∷ 101 ∷ []) ∷ [] }))
unfolding meaning_in verb_in
escaped_word = refl

empty_link : meaning_in (codes "0 symlink \\e l") ≡ Some (Orders (record { session = 0; verb = Symlink; words = [] ∷ codes "l" ∷ [] }))
unfolding meaning_in verb_in
empty_link = refl

moved_name : meaning_in (codes "2 rename a\\sb b") ≡ Some (Orders (record { session = 2; verb = Rename; words = codes "a b" ∷ codes "b" ∷ [] }))
unfolding meaning_in verb_in
moved_name = refl

-- the calls that they ask for
link_call : request_from 7 (record { session = 0; verb = Link; words = codes "f" ∷ codes "g" ∷ [] }) ≡ Hard_link 7 (codes "f") (codes "g")
link_call = refl

symlink_call : request_from 7 (record { session = 0; verb = Symlink; words = codes "./d" ∷ codes "l" ∷ [] }) ≡ Symlink_at 7 (codes "./d") (codes "l")
symlink_call = refl

sync_alone : meaning_in (codes "sync") ≡ Some Sync
unfolding meaning_in verb_in
sync_alone = refl

-- and lines that are none
empty_line : meaning_in [] ≡ None
unfolding meaning_in verb_in
empty_line = refl

session_sixteen : meaning_in (codes "16 look /") ≡ None
unfolding meaning_in verb_in
session_sixteen = refl

zero_in_front : meaning_in (codes "00 look /") ≡ None
unfolding meaning_in verb_in
zero_in_front = refl

no_word : meaning_in (codes "0 look") ≡ None
unfolding meaning_in verb_in
no_word = refl

no_second_word : meaning_in (codes "0 rename a") ≡ None
unfolding meaning_in verb_in
no_second_word = refl

third_word : meaning_in (codes "0 rename a b c") ≡ None
unfolding meaning_in verb_in
third_word = refl

two_spaces : meaning_in (codes "0  look /") ≡ None
unfolding meaning_in verb_in
two_spaces = refl

space_behind : meaning_in (codes "0 look / ") ≡ None
unfolding meaning_in verb_in
space_behind = refl

unknown_escape : meaning_in (codes "0 look \\x") ≡ None
unfolding meaning_in verb_in
unknown_escape = refl

backslash_at_the_end : meaning_in (codes "0 look \\") ≡ None
unfolding meaning_in verb_in
backslash_at_the_end = refl

empty_word_inside : meaning_in (codes "0 look a\\eb") ≡ None
unfolding meaning_in verb_in
empty_word_inside = refl

newline_inside : meaning_in (codes "0 look " ++ 10 ∷ []) ≡ None
unfolding meaning_in verb_in
newline_inside = refl

sync_with_a_word : meaning_in (codes "sync 0") ≡ None
unfolding meaning_in verb_in
sync_with_a_word = refl
