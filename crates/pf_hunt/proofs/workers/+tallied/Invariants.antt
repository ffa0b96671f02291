use Rattle.pf_hunt.proofs.workers.+tallied.Given as goal

-- each part has fewer workers
abbrev pub decreases-tally_of_block : goal.decreases-tally_of_block
decreases-tally_of_block g l = l.team.size

abbrev pub decreases-front_part : goal.decreases-front_part
decreases-front_part g l = l.front_team.size

abbrev pub decreases-back_part : goal.decreases-back_part
decreases-back_part g l = l.back_team.size
