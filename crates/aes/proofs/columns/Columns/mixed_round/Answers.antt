use Rattle.aes.proofs.Rounds.{mixed_state}
use Rattle.aes.proofs.columns.Columns.mixed_round.Goals as goal

pub returns : goal.returns
returns c =
    let s = c.args.self in
    let m = mixed_state s.a s.b s.c s.d in
    cc
