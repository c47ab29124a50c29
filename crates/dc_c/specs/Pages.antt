-- What a call for C that tells a page of a directory may come to, and what is written of it.
use Rattle.std.specs.Prelude.{◌≡◌, ℤ, length, List}
use Rattle.dc_cache.specs.Pages.{Asked}
use Rattle.dc_hold.specs.Pages.{Page, MayPage, page_over, tells_page}
use Rattle.dc_hold.specs.declared.pages.DirEntry.{DirEntry}
use Rattle.dc_hold.specs.declared.told.Found.{Found}
use Rattle.dc_c.specs.Answering.{Answers, Shows}
use Rattle.dc_c.specs.declared.handle.Handle.{Handle}

-- what was found, and the caller's array
abbrev pub Filled : Type 0
Filled = Found × List DirEntry

-- entries are written over what stood there
pub record ShowsPage (before : List DirEntry) (tried : Page) (number : ℤ) (written : Filled) : Type 0 where
  pub told : Shows (tells_page (length before) tried) number written.0
  pub entries : written.1 ≡ page_over before tried

abbrev pub Pages : Asked → Handle → Handle → ℤ → Filled → Filled → Type 0
Pages asked old new number before = Answers Page Filled (MayPage asked) (ShowsPage before.1) old new number before
