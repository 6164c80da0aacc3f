-- The code of each public operation meets just the words of specs/Operations.antt, by the operation's own theorem: a contract that says less, more or
-- other than these words, or asks anything of a caller, is refused here. Assumes nothing.
use Rattle.blocks.proofs.walk.read as read
use Rattle.blocks.proofs.cursor.Cursor.first as first
use Rattle.blocks.proofs.cursor.Cursor.step as step
use Rattle.blocks.proofs.cursor.entry as entry
use Rattle.writing.proofs.block.write as write
use Rattle.writing.proofs.block.rewrite as rewrite
use Rattle.ledger.proofs.fresh as fresh
use Rattle.ledger.proofs.rules.check as check
use Rattle.ledger.proofs.post.post as post
use Rattle.ledger.proofs.lent.post_lent as post-lent
use Rattle.pages.proofs.load as load
use Rattle.pages.proofs.store as store
use Rattle.pages.proofs.to_new as to-new
use Rattle.pages.proofs.to_old as to-old
use Rattle.feed.proofs.block.next_block as next-block
use Rattle.doors.proofs.wear_version as wear-version
use Rattle.doors.proofs.wear_read as wear-read
use Rattle.doors.proofs.wear_step as wear-step
use Rattle.doors.proofs.wear_entry as wear-entry
use Rattle.doors.proofs.wear_write as wear-write
use Rattle.doors.proofs.wear_rewrite as wear-rewrite
use Rattle.doors.proofs.wear_page_to_new as wear-page-to-new
use Rattle.doors.proofs.wear_page_to_old as wear-page-to-old
use Rattle.doors.proofs.wear_post as wear-post
use Rattle.doors.proofs.wear_feed as wear-feed
use Rattle.blocks.specs.contracts.walk.read.{ended as read_ended}
use Rattle.blocks.specs.contracts.cursor.Cursor.first.{ended as first_ended}
use Rattle.blocks.specs.contracts.cursor.Cursor.step.{ended as step_ended}
use Rattle.blocks.specs.contracts.cursor.entry.{ended as entry_ended}
use Rattle.writing.specs.contracts.block.write.{ended as write_ended}
use Rattle.writing.specs.contracts.block.rewrite.{ended as rewrite_ended}
use Rattle.ledger.specs.contracts.fresh.{ended as fresh_ended}
use Rattle.ledger.specs.contracts.rules.check.{ended as check_ended}
use Rattle.ledger.specs.contracts.post.post.{ended as post_ended}
use Rattle.ledger.specs.contracts.lent.post_lent.{ended as post_lent_ended}
use Rattle.pages.specs.contracts.load.{ended as load_ended}
use Rattle.pages.specs.contracts.store.{ended as store_ended}
use Rattle.pages.specs.contracts.to_new.{ended as to_new_ended}
use Rattle.pages.specs.contracts.to_old.{ended as to_old_ended}
use Rattle.feed.specs.contracts.block.next_block.{ended as next_block_ended}
use Rattle.doors.specs.contracts.wear_version.{ended as wear_version_ended}
use Rattle.doors.specs.contracts.wear_read.{ended as wear_read_ended}
use Rattle.doors.specs.contracts.wear_step.{ended as wear_step_ended}
use Rattle.doors.specs.contracts.wear_entry.{ended as wear_entry_ended}
use Rattle.doors.specs.contracts.wear_write.{ended as wear_write_ended}
use Rattle.doors.specs.contracts.wear_rewrite.{ended as wear_rewrite_ended}
use Rattle.doors.specs.contracts.wear_page_to_new.{ended as wear_page_to_new_ended}
use Rattle.doors.specs.contracts.wear_page_to_old.{ended as wear_page_to_old_ended}
use Rattle.doors.specs.contracts.wear_post.{ended as wear_post_ended}
use Rattle.doors.specs.contracts.wear_feed.{ended as wear_feed_ended}
use Rattle.octets.specs.Refusals.{refusal_in}
use Rattle.octets.specs.Written.{as_written}
use Rattle.blocks.specs.Reading.{as_reading}
use Rattle.blocks.specs.Step.{as_step}
use Rattle.blocks.specs.Found.{as_found}
use Rattle.ledger.specs.Answer.{as_answer}
use Rattle.pages.specs.Pages.{old, new}
use Rattle.demands.specs.Claims.{MeetsJust}
use Rattle.demands.specs.Operations.{Reads, First, Steps, Entries, Writes, Rewrites, Fresh, Checks, Posts, LentPosts, Loads, Stores, Turns, Begins}
use Rattle.demands.specs.DoorClaims.{door_versions, door_reads, door_steps, door_entries, door_writes, door_rewrites, door_turns_new, door_turns_old, door_posts, door_feeds}

pub reading : MeetsJust read_ended read.Symbol.name read.Symbol.code (λ _ (s, _) r _. Reads s.now (as_reading r))
reading M = read.Met.met

pub starting : MeetsJust first_ended first.Symbol.name first.Symbol.code (λ _ _ r _. First r)
starting M = first.Met.met

pub step-taken : MeetsJust step_ended step.Symbol.name step.Symbol.code (λ _ (c, (s, _)) r _. Steps s.now c.at (as_step r))
step-taken M = step.Met.met

pub entry_found_lem : MeetsJust entry_ended entry.Symbol.name entry.Symbol.code (λ _ (s, (start, (k, _))) r _. Entries s.now start k (as_found r))
entry_found_lem M = entry.Met.met

pub writing : MeetsJust write_ended write.Symbol.name write.Symbol.code (λ _ (t, (s, (l, _))) r (_, (_, (out, _))). Writes s.now t l.now out.now (as_written r))
writing M = write.Met.met

pub rewriting : MeetsJust rewrite_ended rewrite.Symbol.name rewrite.Symbol.code (λ _ (s, (l, _)) r (_, (out, _)). Rewrites s.now l.now out.now (as_written r))
rewriting M = rewrite.Met.met

pub made-fresh : MeetsJust fresh_ended fresh.Symbol.name fresh.Symbol.code (λ _ _ r _. Fresh r)
made-fresh M = fresh.Met.met

pub checking : MeetsJust check_ended check.Symbol.name check.Symbol.code (λ _ (l, _) r _. Checks l (refusal_in r))
checking M = check.Met.met

pub posting : MeetsJust post_ended post.Symbol.name post.Symbol.code (λ _ (l, (s, (k, _))) r _. Posts l s.now k (as_answer r))
posting M = post.Met.met

pub posting_lent : MeetsJust post_lent_ended post-lent.Symbol.name post-lent.Symbol.code
    (λ _ (l, (s, (k, _))) r (after, _). LentPosts l.now s.now k after.now (refusal_in r))
posting_lent M = post-lent.Met.met

pub loading : MeetsJust load_ended load.Symbol.name load.Symbol.code (λ _ (s, _) r _. Loads s.now (as_answer r))
loading M = load.Met.met

pub storing : MeetsJust store_ended store.Symbol.name store.Symbol.code (λ _ (l, (o, _)) r (_, (out, _)). Stores l o.now out.now (as_written r))
storing M = store.Met.met

pub turning_new : MeetsJust to_new_ended to-new.Symbol.name to-new.Symbol.code (λ _ (s, (o, _)) r (_, (out, _)). Turns old new s.now o.now out.now (as_written r))
turning_new M = to-new.Met.met

pub turning_old : MeetsJust to_old_ended to-old.Symbol.name to-old.Symbol.code (λ _ (s, (o, _)) r (_, (out, _)). Turns new old s.now o.now out.now (as_written r))
turning_old M = to-old.Met.met

pub beginning : MeetsJust next_block_ended next-block.Symbol.name next-block.Symbol.code (λ _ (s, (over, _)) r _. Begins s.now over r)
beginning M = next-block.Met.met

pub door_version : MeetsJust wear_version_ended wear-version.Symbol.name wear-version.Symbol.code door_versions
door_version M = wear-version.Met.met

pub door_read : MeetsJust wear_read_ended wear-read.Symbol.name wear-read.Symbol.code door_reads
door_read M = wear-read.Met.met

pub door_step : MeetsJust wear_step_ended wear-step.Symbol.name wear-step.Symbol.code door_steps
door_step M = wear-step.Met.met

pub door_entry : MeetsJust wear_entry_ended wear-entry.Symbol.name wear-entry.Symbol.code door_entries
door_entry M = wear-entry.Met.met

pub door_write : MeetsJust wear_write_ended wear-write.Symbol.name wear-write.Symbol.code door_writes
door_write M = wear-write.Met.met

pub door_rewrite : MeetsJust wear_rewrite_ended wear-rewrite.Symbol.name wear-rewrite.Symbol.code door_rewrites
door_rewrite M = wear-rewrite.Met.met

pub door_to_new : MeetsJust wear_page_to_new_ended wear-page-to-new.Symbol.name wear-page-to-new.Symbol.code door_turns_new
door_to_new M = wear-page-to-new.Met.met

pub door_to_old : MeetsJust wear_page_to_old_ended wear-page-to-old.Symbol.name wear-page-to-old.Symbol.code door_turns_old
door_to_old M = wear-page-to-old.Met.met

pub door_post : MeetsJust wear_post_ended wear-post.Symbol.name wear-post.Symbol.code door_posts
door_post M = wear-post.Met.met

pub door_feed : MeetsJust wear_feed_ended wear-feed.Symbol.name wear-feed.Symbol.code door_feeds
door_feed M = wear-feed.Met.met
