-- A history owns nothing, so it may go to another thread.
use denote.RattleType.{RattleType}
use denote.Param.Send.{IsSend}
use Rattle.gt_frames.specs.contracts.history.History.{the_row}

pub send : (A B : RattleType) → IsSend (the_row A B)
send A B = record { owned = λ d vs. ((λ vss. (tt, ((λ uss. (tt, tt)), tt))), tt); leaving = λ k f vs. tt }
