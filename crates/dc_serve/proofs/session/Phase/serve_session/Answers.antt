use Rattle.dc_serve.proofs.session.Phase.serve_session.Goals as goal

pub returns : goal.returns
returns g c =
    let served = c.serve_lines-replies.ensures in
    record { fits = served.same.0; same_share = served.same.1; recorded = served.recorded; ok = served.ok; err = served.err }
