-- Calls and replies as trees of numbers: what a seat's ghost data asks of its type.
use Rattle.std.specs.Prelude.{◌≡◌, ℕ, zero, suc, Bool, true, false, List, [], refl, ◌==◌, if◌then◌else◌}
use Rattle.std.specs.Coded.{Coded, code_by, coded×, coded_list, coded_ℕ}
use Rattle.dc_names.specs.declared.kind.Kind.{Kind}
use Rattle.dc_names.specs.declared.kind.Kind.TheVariants.{Dir, File, Link}
use Rattle.dc_plain.specs.declared.call.Follow.{Follow}
use Rattle.dc_plain.specs.declared.call.Follow.TheVariants as follows
use Rattle.dc_plain.specs.Requests.{Request, Answer}
use Rattle.dc_plain.specs.Requests.Request.{Look, Readlink, Stat, List_names, Mkdir, Create, Hard_link, Symlink, Unlink, Rmdir, Rename}
use Rattle.dc_plain.specs.Requests.Answer.{Found, Done, Nothing, Bytes, Names, Counted, Refused}

abbrev kind_to : Kind → ℕ
kind_to Dir = 0
kind_to File = 1
kind_to Link = 2

abbrev kind_back : ℕ → Kind
kind_back zero = Dir
kind_back (suc zero) = File
kind_back (suc (suc n)) = Link

pub kind_round : (kind : Kind) → kind_back (kind_to kind) ≡ kind
kind_round Dir = refl
kind_round File = refl
kind_round Link = refl

abbrev pub coded_kind : Coded Kind
coded_kind = code_by ℕ coded_ℕ kind_to kind_back kind_round

abbrev follow_to : Follow → ℕ
follow_to follows.Yes = 0
follow_to follows.No = 1
follow_to follows.Dir = 2

abbrev follow_back : ℕ → Follow
follow_back zero = follows.Yes
follow_back (suc zero) = follows.No
follow_back (suc (suc n)) = follows.Dir

pub follow_round : (how : Follow) → follow_back (follow_to how) ≡ how
follow_round follows.Yes = refl
follow_round follows.No = refl
follow_round follows.Dir = refl

abbrev pub coded_follow : Coded Follow
coded_follow = code_by ℕ coded_ℕ follow_to follow_back follow_round

abbrev pub coded_bytes : Coded (List ℕ)
coded_bytes = coded_list coded_ℕ

-- which call, its base, how it follows, and its two texts
abbrev Asked : Type 0
Asked = ℕ × (ℕ × (Follow × (List ℕ × List ℕ)))

abbrev asked : ℕ → ℕ → List ℕ → List ℕ → Asked
asked which base a b = (which, (base, (follows.Yes, (a, b))))

-- a rename is one of four calls, by its flags
abbrev flags_to : Bool → Bool → ℕ
flags_to false false = 10
flags_to true false = 11
flags_to false true = 12
flags_to true true = 13

abbrev request_to : Request → Asked
request_to (Look base path how) = (0, (base, (how, (path, []))))
request_to (Readlink base path) = asked 1 base path []
request_to (Stat base path) = asked 2 base path []
request_to (List_names base path) = asked 3 base path []
request_to (Mkdir base path) = asked 4 base path []
request_to (Create base path) = asked 5 base path []
request_to (Hard_link base old new) = asked 6 base old new
request_to (Symlink base text path) = asked 7 base text path
request_to (Unlink base path) = asked 8 base path []
request_to (Rmdir base path) = asked 9 base path []
request_to (Rename base old new flags) = asked (flags_to flags.no_replace flags.exchange) base old new

abbrev request_by : ℕ → ℕ → Follow → List ℕ → List ℕ → Request
request_by which base how a b =
    if which == 0 then Look base a how
    else if which == 1 then Readlink base a
    else if which == 2 then Stat base a
    else if which == 3 then List_names base a
    else if which == 4 then Mkdir base a
    else if which == 5 then Create base a
    else if which == 6 then Hard_link base a b
    else if which == 7 then Symlink base a b
    else if which == 8 then Unlink base a
    else if which == 9 then Rmdir base a
    else if which == 10 then Rename base a b (record { no_replace = false; exchange = false })
    else if which == 11 then Rename base a b (record { no_replace = true; exchange = false })
    else if which == 12 then Rename base a b (record { no_replace = false; exchange = true })
    else Rename base a b (record { no_replace = true; exchange = true })

abbrev request_back : Asked → Request
request_back x = request_by x.0 x.1.0 x.1.1.0 x.1.1.1.0 x.1.1.1.1

pub renamed_round : (base : ℕ) (old new : List ℕ) (no_replace exchange : Bool) → request_back (asked (flags_to no_replace exchange) base old new) ≡ Rename base old new (record { no_replace = no_replace; exchange = exchange })
renamed_round base old new false false = refl
renamed_round base old new true false = refl
renamed_round base old new false true = refl
renamed_round base old new true true = refl

pub request_round : (request : Request) → request_back (request_to request) ≡ request
request_round (Look base path how) = refl
request_round (Readlink base path) = refl
request_round (Stat base path) = refl
request_round (List_names base path) = refl
request_round (Mkdir base path) = refl
request_round (Create base path) = refl
request_round (Hard_link base old new) = refl
request_round (Symlink base text path) = refl
request_round (Unlink base path) = refl
request_round (Rmdir base path) = refl
request_round (Rename base old new flags) = renamed_round base old new flags.no_replace flags.exchange

abbrev pub coded_request : Coded Request
coded_request = code_by Asked (coded× coded_ℕ (coded× coded_ℕ (coded× coded_follow (coded× coded_bytes coded_bytes)))) request_to request_back request_round

-- which answer, its numbers, its kind, its bytes, and its names
abbrev Said : Type 0
Said = ℕ × (ℕ × (ℕ × (Kind × (List ℕ × List (List ℕ)))))

abbrev said : ℕ → ℕ → ℕ → Kind → Said
said which n count kind = (which, (n, (count, (kind, ([], [])))))

abbrev answer_to : Answer → Said
answer_to (Found n kind) = said 0 n 0 kind
answer_to (Done n) = said 1 n 0 Dir
answer_to Nothing = said 2 0 0 Dir
answer_to (Bytes text) = (3, (0, (0, (Dir, (text, [])))))
answer_to (Names names) = (4, (0, (0, (Dir, ([], names)))))
answer_to (Counted n kind count) = said 5 n count kind
answer_to (Refused n) = said 6 n 0 Dir

abbrev answer_by : ℕ → ℕ → ℕ → Kind → List ℕ → List (List ℕ) → Answer
answer_by which n count kind text names =
    if which == 0 then Found n kind
    else if which == 1 then Done n
    else if which == 2 then Nothing
    else if which == 3 then Bytes text
    else if which == 4 then Names names
    else if which == 5 then Counted n kind count
    else Refused n

abbrev answer_back : Said → Answer
answer_back x = answer_by x.0 x.1.0 x.1.1.0 x.1.1.1.0 x.1.1.1.1.0 x.1.1.1.1.1

pub answer_round : (answer : Answer) → answer_back (answer_to answer) ≡ answer
answer_round (Found n kind) = refl
answer_round (Done n) = refl
answer_round Nothing = refl
answer_round (Bytes text) = refl
answer_round (Names names) = refl
answer_round (Counted n kind count) = refl
answer_round (Refused n) = refl

abbrev pub coded_answer : Coded Answer
coded_answer = code_by Said (coded× coded_ℕ (coded× coded_ℕ (coded× coded_ℕ (coded× coded_kind (coded× coded_bytes (coded_list coded_bytes)))))) answer_to answer_back answer_round
