-- What clients of a desk ask for.
use Rattle.std.specs.Prelude.{ℕ, List}
use Rattle.pf_request.specs.Request.{Request}

-- a module number for a source; a ticket for what is requested of a module; the result of a ticket, and how far it is;
-- to drop a trial, and to withdraw a module; what the project uses, and how many calls it logged; that its desk has
-- this edition from now on
pub data Call : Type 0 where
  submit : List ℕ → Call
  order : (n : ℕ) → Request → Call
  fetch : ℕ → Call
  status : ℕ → Call
  drop_trial : ℕ → Call
  withdraw : ℕ → Call
  usage : Call
  log : Call
  edition : ℕ → Call
