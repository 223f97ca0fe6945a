use Rattle.std.proofs.Common.{◌∙◌, rules}
use Rattle.std.proofs.lemmas.Fn.{filter_same}
use Rattle.iv_store_rows.proofs.set.keep_live.Goals as goal

pub returns : goal.returns
returns c = c.give_room_back.ensures ∙ filter_same _ (λ s. s.is_live) _ (λ x b f' k. search rules) _ _ c.retain.ensures.filtered
