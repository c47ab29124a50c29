use Rattle.std.proofs.Common.{◌≡◌, ◌∙◌, ap, ap₂, rules, true, codes, map, subst, string_bytes}
use Rattle.std.proofs.lemmas.Result.{IfOk-weaker}
use Rattle.clap.specs.Words.{App, FailsBy, app_of, is_simple, matches_of, new_app, with_rule}
use Rattle.clap.specs.Simple.{on_top}
use Rattle.clap.specs.Faults.{is_simple_and_free, fault_of}
use Rattle.dc_serve.specs.CommandLine.{app}
use Rattle.dc_serve.proofs.Apps.{is_free_app, is_simple_app}
use Rattle.dc_serve.proofs.command_line.matches_in.Goals as goal

pub returns : goal.returns
returns c =
    let bare_is : app_of c.no_binary_name.result ≡ on_top (λ s. record s { no_binary_name = true }) (new_app (codes "dcserve")) = search rules in
    let one = c.in_ok-arg.ensures.shape (search rules) ∙ ap₂ with_rule bare_is c.size_arg-buckets.ensures.rule in
    let two = c.in_ok-arg-2.ensures.shape (search rules) ∙ ap₂ with_rule one c.size_arg-inodes.ensures.rule in
    let app_is : app_of c.in_ok-command.command ≡ app = c.in_ok-command.ensures.shape (search rules) ∙ ap₂ with_rule two c.flag_arg-stats.ensures.rule in
    let parse = c.try_get_matches_from in
    let words = map string_bytes c.args.words.now in
    record {
      ok = IfOk-weaker parse.result _ _ (λ m has. (has (ap is_simple app_is ∙ is_simple_app)).0 ∙ ap (λ (a : App). matches_of a words) app_is) parse.ensures.matches;
      err = subst (λ (a : App). FailsBy (fault_of a words) parse.result) app_is (parse.ensures.kinds (ap is_simple_and_free app_is ∙ is_free_app));
    }
