use Rattle.pf_hunt.proofs.workers.+first.Given as goal

-- each part has fewer workers
abbrev pub decreases-first_of_block : goal.decreases-first_of_block
decreases-first_of_block g l = l.team.size

abbrev pub decreases-front_part : goal.decreases-front_part
decreases-front_part g l = l.front_team.size

abbrev pub decreases-back_part : goal.decreases-back_part
decreases-back_part g l = l.back_team.size
