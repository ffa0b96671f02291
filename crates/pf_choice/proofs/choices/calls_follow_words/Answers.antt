use Rattle.pf_choice.proofs.RunLemmas.{IsAt-words_ahead, FollowWords-Calls}
use Rattle.pf_choice.proofs.choices.calls_follow_words.Goals as goal

pub returns-clause-somewhere : goal.returns-clause-somewhere
returns-clause-somewhere g c = λ choices. IsAt-words_ahead g.G.NextWord.step choices

pub returns-clause-calls : goal.returns-clause-calls
returns-clause-calls g c = λ old new calls words k.
    FollowWords-Calls g.G.NextWord.step old new calls words k
