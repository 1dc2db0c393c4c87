-- What is printed of an answer.
use Rattle.std.specs.Prelude.{ℕ, ◌+◌, ◌-◌, ◌^◌, min, List, ◌++◌, codes}
use Rattle.std.specs.Fmt.{decimal}
use Rattle.board.specs.Refusals.{refusal_number}
use Rattle.board.specs.Reading.{letters_of}
use Rattle.turn.specs.declared.answer.Outcome.{Outcome}
use Rattle.turn.specs.declared.answer.Outcome.TheVariants.{Start, Turn, Half}
use Rattle.turn.specs.declared.answer.Complaint.{Complaint}
use Rattle.turn.specs.declared.answer.Complaint.TheVariants.{Unreadable, NoBoard, NoStep}

-- a word for what the codes are, and the letters of the board
abbrev pub outcome_text : Outcome → List ℕ
outcome_text (Start b) = codes "start " ++ letters_of b
outcome_text (Turn b) = codes "turn " ++ letters_of b
outcome_text (Half b) = codes "half " ++ letters_of b

-- the number of the refusal, and the place of the refused code, from 1 (2 ^ 64 - 1 stands for any place past it)
abbrev pub complaint_text : Complaint → List ℕ
complaint_text Unreadable = codes "unreadable"
complaint_text (NoBoard why) = codes "no " ++ decimal (refusal_number why)
complaint_text (NoStep refused) =
    codes "no " ++ decimal (refusal_number refused.why) ++ codes " at " ++ decimal (min (refused.at + 1) (2 ^ 64 - 1))
