-- The options of the program are of a kind whose parse is known.
use Rattle.std.proofs.Common.{◌≡◌, refl, true}
use Rattle.clap.specs.Words.{is_simple}
use Rattle.clap.specs.Faults.{is_simple_and_free}
use Rattle.clap.proofs.OnLiterals.{clap_on_literals}
use Rattle.dc_serve.specs.CommandLine.{app}

pub is_simple_app : is_simple app ≡ true
unfolding clap_on_literals
is_simple_app = refl

pub is_free_app : is_simple_and_free app ≡ true
unfolding clap_on_literals
is_free_app = refl
