-- `lowpengine::lowpengine_play` meets its contract: the player's answer, packed. Assumes nothing.
use Rattle.lowpengine.proofs.lowpengine_play.Goals as goal

pub returns : goal.returns
returns c =
    record { answer = c.play-answer.result; played = c.play-answer.ensures; result = c.packed_play.ensures }
