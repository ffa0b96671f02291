use Rattle.pf_words.proofs.words.work_in_json.Goals as goal

pub returns : goal.returns
returns g c = (_, _, _, _, c.work.ensures)
