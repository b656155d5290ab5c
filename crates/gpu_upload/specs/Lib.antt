pub mod Upload
pub mod UploadState
