use Rattle.std.specs.Prelude.{Some}
use Rattle.pf_tests_farm.proofs.seats.the_seat_after_the_last_is_refused.Given as goal

-- the farm's ledgers and registers are named by its blanks
abbrev pub ghosts-refuses_one_more : goal.ghosts-refuses_one_more
ghosts-refuses_one_more g a =
    record {
      calls = a.blanks.calls.name;
      seats = a.blanks.calls.parts;
      opened = a.blanks.opened.name;
      ended = a.blanks.ended.name;
      workers = a.blanks.opened.parts;
      receipts = Some a.blanks.receipts;
      claims = Some a.blanks.claims;
      looks = Some a.blanks.looks;
    }
