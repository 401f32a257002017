-- The laws of the player that other parts use, by subject; each is proved in the file that its line names.
-- Assumes nothing.

-- the first bad move, and legal lists
pub use Rattle.player.proofs.theory.FirstBad.{end-next, first-bad-within, no_bad-move, first-bad-move}
-- when each answer is given, and what the output is afterwards
pub use Rattle.player.proofs.Promises.{answer_case, case_answer, refusal-leaves, end_leaves}
-- nothing is left open
pub use Rattle.player.proofs.Settled.{settled}
