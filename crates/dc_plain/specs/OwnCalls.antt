-- Calls that own their bytes, without where these lie.
use Rattle.dc_plain.specs.Requests.{Request}
use Rattle.dc_plain.specs.Requests.Request.{Look, Readlink, Stat, List_names, Mkdir, Create, Hard_link, Symlink, Unlink, Rmdir, Rename}
use Rattle.dc_plain.specs.declared.own_call.OwnCall.{OwnCall}
use Rattle.dc_plain.specs.declared.own_call.OwnCall.TheVariants as owns

-- the request that an owned call makes
abbrev pub own_request : OwnCall → Request
own_request (owns.Look base path follow) = Look base path.items follow
own_request (owns.Readlink base path) = Readlink base path.items
own_request (owns.Stat base path) = Stat base path.items
own_request (owns.List base path) = List_names base path.items
own_request (owns.Mkdir base path) = Mkdir base path.items
own_request (owns.Create base path) = Create base path.items
own_request (owns.Link base old new) = Hard_link base old.items new.items
own_request (owns.Symlink base text path) = Symlink base text.items path.items
own_request (owns.Unlink base path) = Unlink base path.items
own_request (owns.Rmdir base path) = Rmdir base path.items
own_request (owns.Rename base old new flags) = Rename base old.items new.items flags
