-- The laws of the board that other parts use, by subject; each is proved in the file that its line names. Assumes nothing.

-- the first number at which a test holds, and the turns of a loop that looks for it
pub use Rattle.board.proofs.theory.Firsts.{IsFirst, first_of_first, first_of_is, first_of_low, first_of_high, first_of_holds}
pub use Rattle.board.proofs.theory.Firsts.{first_of_fails, first_of_found, first_of_none, first_of_cong}
pub use Rattle.board.proofs.theory.Firsts.{first_of_here, first_of_next, first_of_passed, first_of_stops, first_of_goes-on}
pub use Rattle.board.proofs.theory.Firsts.{first_of_ends}
-- tests in a fixed order
pub use Rattle.board.proofs.theory.TestsInOrder.{first_means, first-given, none_means, none-given}
pub use Rattle.board.proofs.theory.TestsInOrder.{front-given, behind-given, none_both, Split, front, behind, first-split}
pub use Rattle.board.proofs.theory.TestsInOrder.{none-split, front-refusal, behind-refusal, same-behind}
-- the pigeonhole
pub use Rattle.board.proofs.theory.Onto.{Small, Once, Stands, onto}
-- shapes: sides, how many cells, rows and columns
pub use Rattle.board.proofs.theory.Sides.{neither, Within, side_passes, passing_side, side_within, cells-within}
pub use Rattle.board.proofs.theory.Sides.{cell_row, cell-column}
-- the cells of a board, the empty cell, the goal
pub use Rattle.board.proofs.theory.Boards.{stands, same-cell}
pub use Rattle.board.proofs.theory.Boards.{empty-inside, empty-holds_0, only_empty}
pub use Rattle.board.proofs.theory.Boards.{goal-length, goal-at, goal-is, is_goal-sound, is_goal-complete, goal-is-board}
pub use Rattle.board.proofs.theory.Boards.{goal-empty}
-- two values exchanged
pub use Rattle.board.proofs.theory.Swaps.{swapped, turned, turned-first, turned-second, turned-rest, turned_twice}
pub use Rattle.board.proofs.theory.Swaps.{turned-inside, length-swapped, at-swapped, at-swapped-first, at-swapped-second}
pub use Rattle.board.proofs.theory.Swaps.{at-swapped-rest, swapped-back, swapped-board}
-- one step on the grid
pub use Rattle.board.proofs.theory.OneApart.{OneApart, one-apart_sym, one-apart_across, one-apart-right, one-apart-left}
pub use Rattle.board.proofs.theory.OneApart.{apart_step}
pub use Rattle.board.proofs.theory.Steps.{Step, up, left, right, down, inside-row, same_place}
pub use Rattle.board.proofs.theory.Steps.{leads_by_step, leads_inside, step_stays, step_leads, step_back, step_number}
pub use Rattle.board.proofs.theory.Steps.{step_sum, step_elsewhere}
-- a legal move, the board that it makes, and taking it back
pub use Rattle.board.proofs.theory.Moving.{target, slide_swaps, legal_step, legal-number, target-inside, target-elsewhere}
pub use Rattle.board.proofs.theory.Moving.{target-holds-tray, after_swaps, after-board, after-empty, back-legal, back-after}
pub use Rattle.board.proofs.theory.Moving.{list_board}
-- the distance
pub use Rattle.board.proofs.theory.Distances.{tray-between, tray-empty, tray-at-home, step_between, row-below_4}
pub use Rattle.board.proofs.theory.Distances.{column-below_4, four-wide-inside, between-four, between-at-most_6}
pub use Rattle.board.proofs.theory.Distances.{tray-at-most_6, tray-home}
pub use Rattle.board.proofs.theory.Distances.{distance-from-cell, distance-from-end, goal-distance, distance-at-most_90}
pub use Rattle.board.proofs.theory.Distances.{distance_0_goal, distance_0_iff_goal, move-distance}
-- the change of distance by a move and along a list, and the distance kept beside a position
pub use Rattle.board.proofs.theory.Changes.{looked_up, read_back, read_back_lem, move-change, move-one_step, answered-change}
pub use Rattle.board.proofs.theory.Changes.{list_distance, way_looked_up, change_by_cell}
pub use Rattle.board.proofs.theory.Keeping.{goal_by_distance, kept-most, kept-goal, leads_on, changed_distance, kept_on}
pub use Rattle.board.proofs.theory.Keeping.{leads_nearer, leads_farther}
-- where a move leads after another
pub use Rattle.board.proofs.theory.Ways.{Leads, way_on, way_off, way_back, way_leads, way-none, way-inside}
-- a held board's cells as the digits of a number
pub use Rattle.board.proofs.theory.Digits.{length_digits, at-digits}
-- the parity of test 9
pub use Rattle.board.proofs.theory.Inversions.{swap_turns-inversions}
pub use Rattle.board.proofs.theory.Parities.{goal-inversions, goal-not-odd, move_keeps_parity, list_keeps_parity}
pub use Rattle.board.proofs.theory.Parities.{odd-never_solved}
pub use Rattle.board.proofs.theory.Orders.{ordered-parity}
-- tests 1 to 4
pub use Rattle.board.proofs.theory.Faultless.{none_too_large, too_large_within, none-repeats, repeat_within, sound_means}
pub use Rattle.board.proofs.theory.Faultless.{faultless-sound, fault-cell-inside, faulty_means, faulty-given, none-faulty, board-of}
