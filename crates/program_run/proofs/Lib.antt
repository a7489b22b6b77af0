mod BoundsOfFiles
mod Doing
mod Looking
mod OfNoFile
mod Replies
mod Soundly
mod Worded
