use Rattle.aes.proofs.Rounds.{shifted_state}
use Rattle.aes.proofs.columns.Columns.last_round.Goals as goal

pub returns : goal.returns
returns c =
    let s = c.args.self in
    let m = shifted_state s.a s.b s.c s.d in
    cc
