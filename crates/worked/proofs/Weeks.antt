-- Every line of the table of worked weeks is right: one proof, by computation.
-- Assumes nothing.
use mathlib.Core.Path.{◌≡◌, refl}
use mathlib.Core.Bool.{true}
use mathlib.Core.List.{flat_map}
use Rattle.lex.specs.Every.{every, count, every_of, some_of}
use Rattle.lex.specs.First.{first, within, try_from}
use Rattle.lex.specs.Lists.{padded, same}
use Rattle.week.specs.Rules.{bit_of, word_of, inside, in_domain, tie_word, together, slot_stands, pair_stands, lot_stands, keeps, free, tied}
use Rattle.week.specs.Tables.{numbers_ok, lengths_ok, lot_ok, lot_ok_at, words_ok, bit_ok, word_ok, pair_ok, lot_ties_ok, ties_ok, admits}
use Rattle.pairs.specs.Pairs.{lots_from, pair, pairs_of, pairs}
use Rattle.repair.specs.Break.{single, singles, lost_sets, breaks, lot_below, lot_ascends, lost_ok, row_count}
use Rattle.repair.specs.Repair.{is_lost, replaces, yields, helps, may_go, moves, goes_at, moves_at, mends, repair_of}
use Rattle.repair.specs.Service.{repair_lengths, repair_answer, repair_out, row_lengths}
use Rattle.robust.specs.Super.{is_break, repair_for, safe, robust, is_super, first_super, row_of, table_of}
use Rattle.solve.specs.Service.{solve_answer, solve_order, solve_table}
use Rattle.sheet.specs.Moves.{moves_of, is_of, names, move_ok, once, moves_ok, near, fresh_at, fresh_lot, fresh_move, fresh, stirs, placed_all, marked_all}
use Rattle.sheet.specs.Sheet.{zeros, blank, stands, open_answer, new_sheet, opened, mark_ok, sound_marks, sound, copy_answer, copied, result_ok, save_answer, with_moves, saved}
use Rattle.sheet.specs.History.{step, after}
use Rattle.worked.specs.Weeks.{tie_table, numbers, in_order, three, week_f, of_f, one_lot, two, two_lots, earlier, buffer, answers, repairs, replies, ends, holds, right, worked}

pub all_right : every_of right worked ≡ true
unfolding flat_map every count every_of some_of same first within try_from bit_of inside in_domain tie_word together slot_stands pair_stands lot_stands keeps numbers_ok lengths_ok lot_ok lot_ok_at words_ok bit_ok word_ok pair_ok lot_ties_ok ties_ok admits lots_from single pair singles pairs_of pairs lost_sets breaks is_lost replaces yields helps may_go moves goes_at moves_at mends repair_of is_break repair_for safe robust is_super first_super row_of table_of word_of lot_below lot_ascends lost_ok row_count repair_lengths repair_answer repair_out row_lengths solve_answer solve_order solve_table tie_table numbers in_order three week_f of_f one_lot two two_lots earlier buffer answers repairs replies ends holds right worked free tied moves_of is_of names move_ok once moves_ok near fresh_at fresh_lot fresh_move fresh stirs placed_all marked_all padded zeros blank stands open_answer new_sheet opened mark_ok sound_marks sound copy_answer copied result_ok save_answer with_moves saved step after
all_right = refl
