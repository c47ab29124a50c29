-- The bytes that a request names things by.
use Rattle.std.specs.Prelude.{ℕ, List, []}
use Rattle.dc_plain.specs.Requests.{Request}
use Rattle.dc_plain.specs.Requests.Request.{Look, Readlink, Stat, List_names, Mkdir, Create, Hard_link, Symlink, Unlink, Rmdir, Rename}

-- the path of a request with nothing beside it, or its two paths, or its text with its path
abbrev pub bytes_of : Request → List ℕ × List ℕ
bytes_of (Look base path follow) = (path, [])
bytes_of (Readlink base path) = (path, [])
bytes_of (Stat base path) = (path, [])
bytes_of (List_names base path) = (path, [])
bytes_of (Mkdir base path) = (path, [])
bytes_of (Create base path) = (path, [])
bytes_of (Hard_link base old new) = (old, new)
bytes_of (Symlink base text path) = (text, path)
bytes_of (Unlink base path) = (path, [])
bytes_of (Rmdir base path) = (path, [])
bytes_of (Rename base old new flags) = (old, new)
