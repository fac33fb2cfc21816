-- `packet_body::read_coefs` meets its contract. What is cleared before is as the tokens ask it. Assumes nothing.
use lib.ListN.{length}
use Rattle.tokens.specs.Tokens.{read_tokens}
use Rattle.tokens.specs.Answer.{trees_of}
use Rattle.work_memory.proofs.Clearing.{clear_whole}
use Rattle.packet_body.proofs.Steps.{all_cleared, tokens_stored}
use Rattle.packet_body.proofs.read_coefs.Goals as goal

pub read_tokens-requires : goal.read_tokens-requires
read_tokens-requires c = let n = length c.args.bits.now in record { packet_len_bound = (c.requires.packet_len_bound.0, c.requires.packet_len_bound.1, c.requires.packet_len_bound.2); cleared = all_cleared n c.args.count c.requires.packet_len_bound.3 _ c.args.lasts.now c.args.coefs.now c.args.active.now (clear_whole 0 c.args.bits.now _ c.clear_bytes.ensures) c.requires.coefs_value.1 c.requires.coefs_value.0 c.requires.coefs_value.2 c.requires.packet_len_bound.4 }

pub returns : goal.returns
returns c = let n = length c.args.bits.now in record {
  value = c.read_tokens.ensures.value;
  stored_tokens = tokens_stored n c.args.count c.requires.packet_len_bound.3 _ c.args.lasts.now c.args.coefs.now c.args.active.now (clear_whole 0 c.args.bits.now _ c.clear_bytes.ensures) c.requires.coefs_value.1 c.requires.coefs_value.0 c.requires.coefs_value.2
      (read_tokens (trees_of c.args.nodes.now) c.args.luma c.args.count c.args.packet.now c.args.at) _ _ _ _ c.read_tokens.auto.lasts c.read_tokens.auto.coefs c.read_tokens.ensures.stored c.read_tokens.ensures.untouched;
}
